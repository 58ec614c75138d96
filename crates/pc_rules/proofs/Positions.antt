-- Positions that were found are those of variables and values.
use Rattle.std.proofs.Common.{◌≡◌, ℕ, zero, suc, ◌+◌, ◌<◌, ◌^◌, nat_lt, Bool, true, false, cond, List, [], ◌∷◌, length, map, Option, Some, None, Ok, Err, position, slice_get, refl, sym, ap, ◌∙◌, arith}
use Rattle.std.specs.Prelude.{◌==◌, is_some, option_and_then}
use Rattle.std.specs.List.{list_all, zip}
use Rattle.std.specs.Option.{option_map}
use Rattle.std.proofs.lemmas.List.{length-map}
use Rattle.std.proofs.lemmas.Option.{slice_get_within, slice_get-map}
use Rattle.std.proofs.lemmas.Bool.{and_from, and_parts, le-leb, eq-eqb, eqb-true}
use Rattle.pc_names.specs.Name.{is_name}
use Rattle.pc_names.proofs.Places.{first_place_of_name}
use Rattle.pc_file.specs.declared.catalogue.Catalogue.{Catalogue}
use Rattle.pc_file.specs.declared.variable.Variable.{Variable}
use Rattle.pc_names.specs.Spelling.{same_spelling}
use Rattle.pc_file.specs.Catalogue.{Indexes, variable_position, value_position}
use Rattle.pc_file.specs.Names.{value_name}
use Rattle.pc_file.specs.Limits.{has_variable, has_value, is_row}
use Rattle.pc_rules.specs.declared.kind.Kind.{Kind}
use Rattle.pc_rules.specs.declared.kind.Kind.TheVariants as kind
use Rattle.pc_rules.specs.Parsed.{Parsed, ◌>>=◌}
use Rattle.pc_rules.specs.Naming.{position_or_unknown, variable_at, value_at, all_ok, variables_at, values_at, row_at, rows_at}

-- both steps gave a value
pub bind_ok : {A B : Type 0} (first : Parsed A) (next : A → Parsed B) (y : B) → (first >>= next) ≡ Ok y → (x : A) × (first ≡ Ok x) × (next x ≡ Ok y)
bind_ok (Ok x) next y e = (x, refl, e)
bind_ok (Err fault) next y e = absurd cc

pub the_ok : {A : Type 0} (x y : A) → ◌≡◌ {A = Parsed A} (Ok x) (Ok y) → x ≡ y
the_ok x y e = cc

pub cond_ok : {A : Type 0} (b : Bool) (outcome : Parsed A) (fault : Kind) (y : A) → cond b outcome (Err fault) ≡ Ok y → (b ≡ true) × (outcome ≡ Ok y)
cond_ok true outcome fault y e = (refl, e)
cond_ok false outcome fault y e = absurd cc

position_ok : (found : Option ℕ) (n : ℕ) → position_or_unknown found ≡ Ok n → found ≡ Some n
position_ok None n e = absurd cc
position_ok (Some m) n e = let s = cond_ok (nat_lt m (2 ^ 32)) (Ok m) kind.Unknown n e in ap Some (the_ok m n s.1)

-- a name that was found is there
found_at : (list : List (List ℕ)) (word : List ℕ) (n : ℕ) → position (same_spelling word) list ≡ Some n → n < length list
found_at list word n e = let place = first_place_of_name list word (Some n) (sym e) in slice_get_within list n word place.0

there : {X Y : Type 0} (f : X → Y) (xs : List X) (n : ℕ) → n < length xs → is_some (option_map f (slice_get xs n)) ≡ true
there f [] n below = absurd (omega arith)
there f (x ∷ xs) zero below = refl
there f (x ∷ xs) (suc n) below = there f xs n (omega arith)

-- what each outcome of a list is like
pub all_ok-each : {X Y : Type 0} (f : X → Parsed Y) (test : Y → Bool) → ((x : X) (y : Y) → f x ≡ Ok y → test y ≡ true) → (xs : List X) (ys : List Y) → all_ok (map f xs) ≡ Ok ys →
    (list_all test ys ≡ true) × (length ys ≡ length xs)
all_ok-each f test each [] ys e = let none = the_ok [] ys e in (ap (list_all test) (sym none), ap length (sym none))
all_ok-each f test each (x ∷ xs) ys e =
    let a = bind_ok (f x) (λ y. all_ok (map f xs) >>= λ more. Ok (y ∷ more)) ys e in
    let b = bind_ok (all_ok (map f xs)) (λ more. Ok (a.0 ∷ more)) ys a.2 in
    let others = all_ok-each f test each xs b.0 b.1 in
    let is = the_ok (a.0 ∷ b.0) ys b.2 in
    (ap (list_all test) (sym is) ∙ and_from (test a.0) (list_all test b.0) (each x a.0 a.1) others.0, ap length (sym is) ∙ ap suc others.1)

module _ (names : Catalogue) (variables : List Variable) (holds : Indexes names variables) where
  pub variable_at-has : (word : List ℕ) (n : ℕ) → variable_at names word ≡ Ok n → has_variable variables n ≡ true
  unfolding variable_at
  variable_at-has word n e =
      let s = cond_ok (is_name word) (position_or_unknown (variable_position names word)) kind.Unknown n e in
      let below : n < length names.variables = found_at names.variables word n (position_ok (variable_position names word) n s.1) in
      let count : length names.variables ≡ length variables = ap (length {A = List ℕ}) holds.variables_are ∙ length-map variables (λ variable. variable.name) in
      le-leb (n + 1) (length variables) (omega (arith, below, count))

  value_there : (v n : ℕ) (word : List ℕ) (variable : Option Variable) → slice_get variables v ≡ variable →
      option_and_then (position (same_spelling word)) (option_map (λ (x : Variable). map (λ value. value.name) x.values) variable) ≡ Some n → is_some (value_name variables v n) ≡ true
  value_there v n word None is e = absurd (no_position e)
    where
      no_position : ◌≡◌ {A = Option ℕ} None (Some n) → ⊥
      no_position e = cc
  value_there v n word (Some x) is e =
      let below : n < length (map (λ value. value.name) x.values) = found_at (map (λ value. value.name) x.values) word n e in
      let count = length-map x.values (λ value. value.name) in
      let within : n < length x.values = omega (arith, below, count) in
      ap (λ o. is_some (option_and_then (λ (y : Variable). option_map (λ a. a.name) (slice_get y.values n)) o)) is ∙ there (λ a. a.name) x.values n within

  pub value_at-has : (v : ℕ) (word : List ℕ) (n : ℕ) → value_at names v word ≡ Ok n → has_value variables v n ≡ true
  unfolding value_at
  value_at-has v word n e =
      let s = cond_ok (is_name word) (position_or_unknown (value_position names v word)) kind.Unknown n e in
      let found : value_position names v word ≡ Some n = position_ok (value_position names v word) n s.1 in
      let list = ap (λ l. slice_get l v) holds.values_are ∙ slice_get-map (λ (x : Variable). map (λ value. value.name) x.values) variables v in
      value_there v n word (slice_get variables v) refl (sym (ap (option_and_then (position (same_spelling word))) list) ∙ found)

  pub variables_at-have : (words : List (List ℕ)) (these : List ℕ) → variables_at names words ≡ Ok these → (list_all (has_variable variables) these ≡ true) × (length these ≡ length words)
  unfolding variables_at
  variables_at-have words these e = all_ok-each (variable_at names) (has_variable variables) variable_at-has words these e

  pub values_at-have : (v : ℕ) (words : List (List ℕ)) (these : List ℕ) → values_at names v words ≡ Ok these → (list_all (has_value variables v) these ≡ true) × (length these ≡ length words)
  unfolding values_at
  values_at-have v words these e = all_ok-each (value_at names v) (has_value variables v) (value_at-has v) words these e

  are_values : (vs : List ℕ) (words : List (List ℕ)) (these : List ℕ) → length words ≡ length vs → all_ok (map (λ p. value_at names p.0 p.1) (zip vs words)) ≡ Ok these →
      (length these ≡ length vs) × (list_all (λ p. has_value variables p.0 p.1) (zip vs these) ≡ true)
  are_values [] words these same e = (ap length (sym (the_ok [] these e)), refl)
  are_values (v ∷ vs) [] these same e = absurd (omega arith)
  are_values (v ∷ vs) (word ∷ words) these same e =
      let rest = all_ok (map (λ p. value_at names p.0 p.1) (zip vs words)) in
      let a = bind_ok (value_at names v word) (λ y. rest >>= λ more. Ok (y ∷ more)) these e in
      let b = bind_ok rest (λ more. Ok (a.0 ∷ more)) these a.2 in
      let others = are_values vs words b.0 (omega arith) b.1 in
      let is = the_ok (a.0 ∷ b.0) these b.2 in (
        ap length (sym is) ∙ ap suc others.0,
        ap (λ l. list_all (λ p. has_value variables p.0 p.1) (zip (v ∷ vs) l)) (sym is) ∙ and_from (has_value variables v a.0) (list_all (λ p. has_value variables p.0 p.1) (zip vs b.0)) (value_at-has v word a.0 a.1) others.1,
      )

  pub row_at-is : (vs : List ℕ) (words : List (List ℕ)) (these : List ℕ) → length words ≡ length vs → row_at names vs words ≡ Ok these → is_row variables vs these ≡ true
  unfolding row_at
  row_at-is vs words these same e =
      let found = are_values vs words these same e in
      and_from (length these == length vs) (list_all (λ p. has_value variables p.0 p.1) (zip vs these)) (eq-eqb (length these) (length vs) found.0) found.1

  pub rows_at-are : (vs : List ℕ) (rows : List (List (List ℕ))) (found : List (List ℕ)) → list_all (λ row. length row == length vs) rows ≡ true → rows_at names vs rows ≡ Ok found →
      (list_all (is_row variables vs) found ≡ true) × (length found ≡ length rows)
  unfolding rows_at
  rows_at-are vs [] found fit e = let none = the_ok [] found e in (ap (list_all (is_row variables vs)) (sym none), ap length (sym none))
  rows_at-are vs (row ∷ rows) found fit e =
      let rest = all_ok (map (row_at names vs) rows) in
      let a = bind_ok (row_at names vs row) (λ y. rest >>= λ more. Ok (y ∷ more)) found e in
      let b = bind_ok rest (λ more. Ok (a.0 ∷ more)) found a.2 in
      let parts = and_parts (length row == length vs) (list_all (λ row. length row == length vs) rows) fit in
      let others = rows_at-are vs rows b.0 parts.1 b.1 in
      let is = the_ok (a.0 ∷ b.0) found b.2 in
      (ap (list_all (is_row variables vs)) (sym is) ∙ and_from (is_row variables vs a.0) (list_all (is_row variables vs) b.0) (row_at-is vs row a.0 (eqb-true (length row) (length vs) parts.0) a.1) others.0, ap length (sym is) ∙ ap suc others.1)
