-- A statement has no fault exactly where nothing that may be wrong with it is.
use Rattle.std.proofs.Common.{◌≡◌, Bool, true, false, List, [], ◌∷◌, ℕ, Option, Some, None, Result, refl}
use Rattle.std.specs.Option.{option_or}
use Rattle.pc_file.specs.declared.rule.Rule.{Rule}
use Rattle.pc_text.specs.declared.keyword.Keyword.{Keyword}
use Rattle.pc_rules.specs.declared.kind.Kind.{Kind}
use Rattle.pc_rules.specs.declared.kind.Kind.TheVariants as kind
use Rattle.pc_text.specs.Given.{Given, give_statement}
use Rattle.pc_text.specs.Orders.{first_standing, is_wrong_header, comes_wrong, expected_after, is_malformed, kind_named, has_wrong_number, is_one_too_many, is_repeated, orders, fault_of_rule, print_fault, statement_fault}

-- each thing that may be wrong isn't
pub record NoFault (given : Given) (word : Option Keyword) (arguments : List (List ℕ)) (rule : Result Rule Kind) : Type 0 where
  pub heads : is_wrong_header given word arguments ≡ false
  pub comes : comes_wrong given.last word ≡ false
  pub formed : is_malformed given word arguments ≡ false
  pub numbers : has_wrong_number word arguments ≡ false
  pub fits : is_one_too_many given word ≡ false
  pub new : is_repeated given word arguments ≡ false
  pub reads : fault_of_rule word rule ≡ None
  pub prints : print_fault (give_statement given word arguments rule).printed ≡ None

first_parts : (stands : Bool) (kind : Kind) (rest : List (Bool × Kind)) → first_standing ((stands, kind) ∷ rest) ≡ None → (stands ≡ false) × (first_standing rest ≡ None)
first_parts true kind rest e = absurd cc
first_parts false kind rest e = (refl, e)

first_none : (stands : Bool) (kind : Kind) (rest : List (Bool × Kind)) → stands ≡ false → first_standing rest ≡ None → first_standing ((stands, kind) ∷ rest) ≡ None
first_none true kind rest e none = absurd cc
first_none false kind rest e none = none

-- neither of two is there
pub neither_parts : {T : Type 0} (first second : Option T) → option_or first second ≡ None → (first ≡ None) × (second ≡ None)
neither_parts None second e = (refl, e)
neither_parts (Some x) second e = absurd cc

neither : {T : Type 0} (first second : Option T) → first ≡ None → second ≡ None → option_or first second ≡ None
neither None second e none = none
neither (Some x) second e none = absurd cc

module _ (given : Given) (word : Option Keyword) (arguments : List (List ℕ)) (rule : Result Rule Kind) where
  abbrev sixth : List (Bool × Kind)
  sixth = (is_repeated given word arguments, kind.Repeat) ∷ []

  abbrev fifth : List (Bool × Kind)
  fifth = (is_one_too_many given word, kind.Size) ∷ sixth

  abbrev fourth : List (Bool × Kind)
  fourth = (has_wrong_number word arguments, kind.Number) ∷ fifth

  abbrev third : List (Bool × Kind)
  third = (is_malformed given word arguments, kind_named word) ∷ fourth

  abbrev second : List (Bool × Kind)
  second = (comes_wrong given.last word, expected_after given.last) ∷ third

  pub no_fault_parts : statement_fault given word arguments rule ≡ None → NoFault given word arguments rule
  no_fault_parts none =
      let prints = print_fault (give_statement given word arguments rule).printed in
      let both = neither_parts (first_standing (orders given word arguments)) (option_or (fault_of_rule word rule) prints) none in
      let last = neither_parts (fault_of_rule word rule) prints both.1 in
      let a = first_parts (is_wrong_header given word arguments) kind.Header second both.0 in
      let b = first_parts (comes_wrong given.last word) (expected_after given.last) third a.1 in
      let c = first_parts (is_malformed given word arguments) (kind_named word) fourth b.1 in
      let d = first_parts (has_wrong_number word arguments) kind.Number fifth c.1 in
      let e = first_parts (is_one_too_many given word) kind.Size sixth d.1 in
      let f = first_parts (is_repeated given word arguments) kind.Repeat [] e.1 in
      record { heads = a.0; comes = b.0; formed = c.0; numbers = d.0; fits = e.0; new = f.0; reads = last.0; prints = last.1 }

  pub no_fault : NoFault given word arguments rule → statement_fault given word arguments rule ≡ None
  no_fault h =
      let f = first_none (is_repeated given word arguments) kind.Repeat [] h.new refl in
      let e = first_none (is_one_too_many given word) kind.Size sixth h.fits f in
      let d = first_none (has_wrong_number word arguments) kind.Number fifth h.numbers e in
      let c = first_none (is_malformed given word arguments) (kind_named word) fourth h.formed d in
      let b = first_none (comes_wrong given.last word) (expected_after given.last) third h.comes c in
      let a = first_none (is_wrong_header given word arguments) kind.Header second h.heads b in
      let prints = print_fault (give_statement given word arguments rule).printed in
      neither (first_standing (orders given word arguments)) (option_or (fault_of_rule word rule) prints) a (neither (fault_of_rule word rule) prints h.reads h.prints)
