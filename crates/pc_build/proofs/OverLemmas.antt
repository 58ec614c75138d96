-- The set of a rule over those of its subrules, form by form.
use Rattle.std.proofs.Common.{◌≡◌, ℕ, suc, ◌+◌, ◌<◌, ◌≤◌, ◌⊎◌, inl, inr, true≢false, nat_le, Bool, true, false, not, ◌&&◌, ◌||◌, count_by, cond, List, [], ◌∷◌, map, length, get_or, slice_get, Option, Some, None, is_some, All, Result, Ok, Err, IfOk, refl, sym, ap, ◌∙◌, subst, arith}
use Rattle.std.specs.Prelude.{◌==◌}
use Rattle.std.specs.List.{list_all, list_any}
use Rattle.std.specs.Option.{option_map, option_and_then}
use Rattle.std.proofs.lemmas.Bool.Decides.{nat_tests}
use Rattle.std.proofs.lemmas.List.{length-map}
use Rattle.std.proofs.lemmas.List.Folds.{list_all-map, fold-map}
use Rattle.std.proofs.lemmas.Option.{slice_get-get_or, slice_get_cases, slice_get_within}
use Rattle.pc_base.specs.Distinct.{all_differ}
use Rattle.pc_base.proofs.DistinctLemmas.{both_true_parts}
use Rattle.pc_base.specs.declared.memory.NoMemory.{NoMemory}
use Rattle.pc_diagram.specs.Words.{is_word}
use Rattle.pc_store.specs.declared.id.Id.{Id}
use Rattle.pc_store.specs.declared.store.Store.{Store}
use Rattle.pc_store.specs.Sets.{domains_of, IsIdAt, has, Keeps}
use Rattle.pc_apply.specs.Counting.{is_within}
use Rattle.pc_file.specs.declared.variable.Variable.{Variable}
use Rattle.pc_file.specs.declared.rule.Rule.{Rule, Rule-F, fold-roll-Rule}
use Rattle.pc_file.specs.declared.rule.Rule.TheViews.{out-Rule, out-roll-Rule}
use Rattle.pc_file.specs.declared.rule.Rule.TheVariants.{Is, IsNot, OneOf, Not, And, Or, Implies, Same, AtMost, Table, rolls-Is, rolls-IsNot, rolls-OneOf, rolls-Not, rolls-And, rolls-Or, rolls-Implies, rolls-Same, rolls-AtMost, rolls-Table}
use Rattle.pc_file.specs.Limits.{is_spelled, is_spelled_step, has_variable, has_value, is_row}
use Rattle.pc_file.specs.Products.{value_counts}
use Rattle.pc_file.specs.Rule.{holds, holds_step}
use Rattle.pc_file.specs.Parts.{subrules, members_of}
use Rattle.pc_file.proofs.RuleLemmas.{holds-And, holds-Or, holds-AtMost, list_any-map}
use Rattle.pc_build.specs.Making.{Denotes, DenoteEach}
use Rattle.pc_build.proofs.MakingLemmas.{denotes_later}
use Rattle.pc_build.proofs.SpelledLemmas.{all_at}

-- the subrules of each form
pub members-Not : (rule inner : Rule) → rule ≡ Not inner → members_of rule ≡ inner ∷ []
members-Not rule inner is = ap members_of is ∙ ap subrules (ap out-Rule (sym (rolls-Not inner)) ∙ out-roll-Rule (Rule-F.Not inner))

pub members-And : (rule : Rule) (members : List Rule) → rule ≡ And members → members_of rule ≡ members
members-And rule members is = ap members_of is ∙ ap subrules (ap out-Rule (sym (rolls-And members)) ∙ out-roll-Rule (Rule-F.And members))

pub members-Or : (rule : Rule) (members : List Rule) → rule ≡ Or members → members_of rule ≡ members
members-Or rule members is = ap members_of is ∙ ap subrules (ap out-Rule (sym (rolls-Or members)) ∙ out-roll-Rule (Rule-F.Or members))

pub members-Implies : (rule premise consequence : Rule) → rule ≡ Implies premise consequence → members_of rule ≡ premise ∷ consequence ∷ []
members-Implies rule premise consequence is = ap members_of is ∙ ap subrules (ap out-Rule (sym (rolls-Implies premise consequence)) ∙ out-roll-Rule (Rule-F.Implies premise consequence))

pub members-AtMost : (rule : Rule) (most : ℕ) (members : List Rule) → rule ≡ AtMost most members → members_of rule ≡ members
members-AtMost rule most members is = ap members_of is ∙ ap subrules (ap out-Rule (sym (rolls-AtMost most members)) ∙ out-roll-Rule (Rule-F.AtMost most members))

-- the variables that a rule names are there
count_is : (store : Store) (variables : List Variable) → domains_of store ≡ value_counts variables → length (domains_of store) ≡ length variables
count_is store variables is = ap length is ∙ length-map variables (λ v. length v.values)

value_there : (variables : List Variable) (variable value : ℕ) → has_value variables variable value ≡ true → variable < length variables
value_there variables variable value h = by (slice_get_cases variables variable)
  where
    nothing : slice_get variables variable ≡ None → is_some (option_and_then (λ (v : Variable). option_map (λ a. a.name) (slice_get v.values value)) (slice_get variables variable)) ≡ false
    nothing e = ap (λ (o : Option Variable). is_some (option_and_then (λ (v : Variable). option_map (λ a. a.name) (slice_get v.values value)) o)) e

    by : (slice_get variables variable ≡ slice_get variables variable) × (((x : Variable) × (variable < length variables) × (slice_get variables variable ≡ Some x) × (get_or variables variable x ≡ x)) ⊎ ((length variables ≤ variable) × (slice_get variables variable ≡ None))) → variable < length variables
    by cases = elim cases.1 [ inl found ↦ found.1 | inr past ↦ absurd (true≢false (sym h ∙ nothing past.1)) ]

variable_there : (variables : List Variable) (variable : ℕ) → has_variable variables variable ≡ true → variable < length variables
variable_there variables variable h = grind (arith, nat_tests)

pub is_there : (store : Store) (variables : List Variable) (rule : Rule) (variable value : ℕ) → domains_of store ≡ value_counts variables → is_spelled variables rule ≡ true → rule ≡ Is variable value → variable < length (domains_of store)
is_there store variables rule variable value is spelled form =
    let there = value_there variables variable value (sym (ap (is_spelled variables) (sym (rolls-Is variable value)) ∙ fold-roll-Rule Bool (is_spelled_step variables) (Rule-F.Is variable value)) ∙ ap (is_spelled variables) (sym form) ∙ spelled) in
    let count = count_is store variables is in
    omega arith

pub is_not_there : (store : Store) (variables : List Variable) (rule : Rule) (variable value : ℕ) → domains_of store ≡ value_counts variables → is_spelled variables rule ≡ true → rule ≡ IsNot variable value → variable < length (domains_of store)
is_not_there store variables rule variable value is spelled form =
    let there = value_there variables variable value (sym (ap (is_spelled variables) (sym (rolls-IsNot variable value)) ∙ fold-roll-Rule Bool (is_spelled_step variables) (Rule-F.IsNot variable value)) ∙ ap (is_spelled variables) (sym form) ∙ spelled) in
    let count = count_is store variables is in
    omega arith

pub one_of_there : (store : Store) (variables : List Variable) (rule : Rule) (variable : ℕ) (values : List ℕ) → domains_of store ≡ value_counts variables → is_spelled variables rule ≡ true → rule ≡ OneOf variable values → variable < length (domains_of store)
one_of_there store variables rule variable values is spelled form = by values all
  where
    spelling : is_spelled_step variables (Rule-F.OneOf variable values) ≡ true
    spelling = sym (ap (is_spelled variables) (sym (rolls-OneOf variable values)) ∙ fold-roll-Rule Bool (is_spelled_step variables) (Rule-F.OneOf variable values)) ∙ ap (is_spelled variables) (sym form) ∙ spelled

    all : (nat_le 1 (length values) && list_all (has_value variables variable) values) ≡ true
    all = (both_true_parts (nat_le 1 (length values) && list_all (has_value variables variable) values) (all_differ ◌==◌ values) spelling).0

    by : (vs : List ℕ) → (nat_le 1 (length vs) && list_all (has_value variables variable) vs) ≡ true → variable < length (domains_of store)
    by [] e = absurd cc
    by (v ∷ vs) e =
        let all_there = (both_true_parts (nat_le 1 (length (v ∷ vs))) (list_all (has_value variables variable) (v ∷ vs)) e).1 in
        let there = value_there variables variable v (both_true_parts (has_value variables variable v) (list_all (has_value variables variable) vs) all_there).0 in
        let count = count_is store variables is in
        omega arith

pub same_there : (store : Store) (variables : List Variable) (rule : Rule) (variable other : ℕ) → domains_of store ≡ value_counts variables → is_spelled variables rule ≡ true → rule ≡ Same variable other → (variable < length (domains_of store)) × (other < length (domains_of store))
same_there store variables rule variable other is spelled form =
    let parts = both_true_parts (has_variable variables variable) (has_variable variables other) (sym (ap (is_spelled variables) (sym (rolls-Same variable other)) ∙ fold-roll-Rule Bool (is_spelled_step variables) (Rule-F.Same variable other)) ∙ ap (is_spelled variables) (sym form) ∙ spelled) in
    let first = variable_there variables variable parts.0 in
    let second = variable_there variables other parts.1 in
    let count = count_is store variables is in
    (omega arith, omega arith)

pub table_there : (store : Store) (variables : List Variable) (rule : Rule) (these : List ℕ) (rows : List (List ℕ)) → domains_of store ≡ value_counts variables → is_spelled variables rule ≡ true → rule ≡ Table these rows → All (λ variable. variable < length (domains_of store)) these
table_there store variables rule these rows is spelled form place d inside =
    let there = variable_there variables (get_or these place d) (all_at (has_variable variables) these place d all inside) in
    let count = count_is store variables is in
    omega arith
  where
    spelling : is_spelled_step variables (Rule-F.Table these rows) ≡ true
    spelling = sym (ap (is_spelled variables) (sym (rolls-Table these rows)) ∙ fold-roll-Rule Bool (is_spelled_step variables) (Rule-F.Table these rows)) ∙ ap (is_spelled variables) (sym form) ∙ spelled

    all : list_all (has_variable variables) these ≡ true
    all =
        let first = both_true_parts (nat_le 1 (length these) && list_all (has_variable variables) these && all_differ ◌==◌ these && nat_le 1 (length rows)) (list_all (is_row variables these) rows) spelling in
        let second = both_true_parts (nat_le 1 (length these) && list_all (has_variable variables) these && all_differ ◌==◌ these) (nat_le 1 (length rows)) first.0 in
        let third = both_true_parts (nat_le 1 (length these) && list_all (has_variable variables) these) (all_differ ◌==◌ these) second.0 in
        (both_true_parts (nat_le 1 (length these)) (list_all (has_variable variables) these) third.0).1

-- a set of several is that of its rule
pub one_denotes : (store : Store) (variables : List Variable) (rules : List Rule) (ids : List Id) (place : ℕ) (rule : Rule) (d : Id) → DenoteEach store variables rules ids → slice_get rules place ≡ Some rule → Denotes store (λ word. holds variables word rule) (get_or ids place d)
one_denotes store variables rules ids place rule d h at =
    h.each place rule (get_or ids place d) at (slice_get-get_or ids place d (let lt = slice_get_within rules place rule at in let c = h.count in omega arith))

-- the sets of subrules are of the first layer
pub each_is_id : (store : Store) (variables : List Variable) (rules : List Rule) (ids : List Id) → DenoteEach store variables rules ids → All (IsIdAt store 0) ids
each_is_id store variables rules ids h place d inside =
    let none : Rule = Is 0 0 in
    let there : place < length rules = (let c = h.count in omega arith) in
    (h.each place (get_or rules place none) (get_or ids place d) (slice_get-get_or rules place none there) (slice_get-get_or ids place d inside)).is_id

-- which of the sets have a word
each_has : (store : Store) (variables : List Variable) (rules : List Rule) (ids : List Id) (word : List ℕ) → DenoteEach store variables rules ids → map (λ id. has store id word) ids ≡ map (λ rule. is_word (domains_of store) word && holds variables word rule) rules
each_has store variables [] [] word h = refl
each_has store variables [] (id ∷ ids) word h = absurd (let c = h.count in omega arith)
each_has store variables (rule ∷ rules) [] word h = absurd (let c = h.count in omega arith)
each_has store variables (rule ∷ rules) (id ∷ ids) word h = λ i. (h.each 0 rule id refl refl).words word i ∷ each_has store variables rules ids word rest i
  where
    rest : DenoteEach store variables rules ids
    rest = record { count = (let c = h.count in omega arith); each = λ place r d at here. h.each (suc place) r d at here }

module _ (variables : List Variable) (word : List ℕ) (rules : List Rule) where
  all_by : (b : Bool) → (b && list_all (λ x. x) (map (λ rule. b && holds variables word rule) rules)) ≡ (b && list_all (holds variables word) rules)
  all_by true = list_all-map (λ x. x) (holds variables word) rules
  all_by false = refl

  none_of : (rs : List Rule) → list_any (λ x. x) (map (λ rule. false && holds variables word rule) rs) ≡ false
  none_of [] = refl
  none_of (r ∷ rs) = none_of rs

  any_by : (b : Bool) → list_any (λ x. x) (map (λ rule. b && holds variables word rule) rules) ≡ (b && list_any (holds variables word) rules)
  any_by true = list_any-map (λ x. x) (holds variables word) rules
  any_by false = none_of rules

  within_by : (most : ℕ) (b : Bool) → (b && nat_le (count_by (λ x. x) (map (λ rule. b && holds variables word rule) rules)) most) ≡ (b && nat_le (count_by (holds variables word) rules) most)
  within_by most true = ap (λ n. nat_le n most) (fold-map (λ a x. a + cond x 1 0) (holds variables word) 0 rules)
  within_by most false = refl

module _ (old new : Store) (variables : List Variable) (rule : Rule) (sets : List Id) (keeps : Keeps old new) (h : DenoteEach old variables (members_of rule) sets) where
  over : (word : List ℕ) → is_word (domains_of old) word ≡ is_word (domains_of new) word
  over word = ap (λ d. is_word d word) (sym keeps.domains)

  each_of : (members : List Rule) → members_of rule ≡ members → DenoteEach old variables members sets
  each_of members is = subst (λ rs. DenoteEach old variables rs sets) is h

  pub and_denotes : (members : List Rule) (result : Result Id NoMemory) → rule ≡ And members → IfOk result (IsIdAt new 0) → IfOk result (λ id. (word : List ℕ) → has new id word ≡ (is_word (domains_of old) word && list_all (λ set. has old set word) sets)) → IfOk result (Denotes new (λ word. holds variables word rule))
  and_denotes members (Err e) is is_id words = tt
  and_denotes members (Ok id) is is_id words = record {
    is_id = is_id;
    words = λ word.
        words word
        ∙ ap (λ b. is_word (domains_of old) word && b) (sym (list_all-map (λ x. x) (λ set. has old set word) sets))
        ∙ ap (λ bs. is_word (domains_of old) word && list_all (λ x. x) bs) (each_has old variables members sets word (each_of members (members-And rule members is)))
        ∙ all_by variables word members (is_word (domains_of old) word)
        ∙ (λ i. over word i && (sym (holds-And variables word members) ∙ ap (holds variables word) (sym is)) i);
  }

  pub or_denotes : (members : List Rule) (result : Result Id NoMemory) → rule ≡ Or members → IfOk result (IsIdAt new 0) → IfOk result (λ id. (word : List ℕ) → has new id word ≡ list_any (λ set. has old set word) sets) → IfOk result (Denotes new (λ word. holds variables word rule))
  or_denotes members (Err e) is is_id words = tt
  or_denotes members (Ok id) is is_id words = record {
    is_id = is_id;
    words = λ word.
        words word
        ∙ sym (list_any-map (λ x. x) (λ set. has old set word) sets)
        ∙ ap (list_any (λ x. x)) (each_has old variables members sets word (each_of members (members-Or rule members is)))
        ∙ any_by variables word members (is_word (domains_of old) word)
        ∙ (λ i. over word i && (sym (holds-Or variables word members) ∙ ap (holds variables word) (sym is)) i);
  }

  pub at_most_denotes : (most : ℕ) (members : List Rule) (result : Result Id NoMemory) → rule ≡ AtMost most members → IfOk result (IsIdAt new 0) → IfOk result (λ id. (word : List ℕ) → has new id word ≡ (is_word (domains_of old) word && is_within old most sets word)) → IfOk result (Denotes new (λ word. holds variables word rule))
  at_most_denotes most members (Err e) is is_id words = tt
  at_most_denotes most members (Ok id) is is_id words = record {
    is_id = is_id;
    words = λ word.
        words word
        ∙ ap (λ n. is_word (domains_of old) word && nat_le n most) (sym (fold-map (λ a x. a + cond x 1 0) (λ set. has old set word) 0 sets))
        ∙ ap (λ bs. is_word (domains_of old) word && nat_le (count_by (λ x. x) bs) most) (each_has old variables members sets word (each_of members (members-AtMost rule most members is)))
        ∙ within_by variables word members most (is_word (domains_of old) word)
        ∙ (λ i. over word i && (sym (holds-AtMost variables word most members) ∙ ap (holds variables word) (sym is)) i);
  }

  pub not_denotes : (inner : Rule) (d : Id) (result : Result Id NoMemory) → rule ≡ Not inner → IfOk result (IsIdAt new 0) → IfOk result (λ id. (word : List ℕ) → has new id word ≡ (is_word (domains_of old) word && not (has old (get_or sets 0 d) word))) → IfOk result (Denotes new (λ word. holds variables word rule))
  not_denotes inner d (Err e) is is_id words = tt
  not_denotes inner d (Ok id) is is_id words = record {
    is_id = is_id;
    words = λ word.
        words word
        ∙ ap (λ b. is_word (domains_of old) word && not b) ((one_denotes old variables (inner ∷ []) sets 0 inner d (each_of (inner ∷ []) (members-Not rule inner is)) refl).words word)
        ∙ not_by (is_word (domains_of old) word) (holds variables word inner)
        ∙ (λ i. over word i && (sym (ap (holds variables word) (sym (rolls-Not inner)) ∙ fold-roll-Rule Bool (holds_step variables word) (Rule-F.Not inner)) ∙ ap (holds variables word) (sym is)) i);
  }
    where
      not_by : (b c : Bool) → (b && not (b && c)) ≡ (b && not c)
      not_by true c = refl
      not_by false c = refl

-- either the premise fails, or the consequence holds
pub implies_denotes : (old mid new : Store) (variables : List Variable) (rule premise consequence : Rule) (sets : List Id) (d e other : Id) (result : Result Id NoMemory) → Keeps old mid → Keeps mid new → DenoteEach old variables (members_of rule) sets → rule ≡ Implies premise consequence →
    ((word : List ℕ) → has mid other word ≡ (is_word (domains_of old) word && not (has old (get_or sets 0 d) word))) → IfOk result (IsIdAt new 0) → IfOk result (λ id. (word : List ℕ) → has new id word ≡ (has mid other word || has mid (get_or sets 1 e) word)) → IfOk result (Denotes new (λ word. holds variables word rule))
implies_denotes old mid new variables rule premise consequence sets d e other (Err x) first then h is other_is is_id words = tt
implies_denotes old mid new variables rule premise consequence sets d e other (Ok id) first then h is other_is is_id words = record {
  is_id = is_id;
  words = λ word.
      words word
      ∙ (λ i. other_is word i || right.words word i)
      ∙ (λ i. (is_word (domains_of old) word && not (left.words word i)) || (is_word (first.domains i) word && holds variables word consequence))
      ∙ by (is_word (domains_of old) word) (holds variables word premise) (holds variables word consequence)
      ∙ (λ i. is_word (sym (then.domains ∙ first.domains) i) word && (sym (ap (holds variables word) (sym (rolls-Implies premise consequence)) ∙ fold-roll-Rule Bool (holds_step variables word) (Rule-F.Implies premise consequence)) ∙ ap (holds variables word) (sym is)) i);
}
  where
    both : DenoteEach old variables (premise ∷ consequence ∷ []) sets
    both = subst (λ rs. DenoteEach old variables rs sets) (members-Implies rule premise consequence is) h

    left : Denotes old (λ word. holds variables word premise) (get_or sets 0 d)
    left = one_denotes old variables (premise ∷ consequence ∷ []) sets 0 premise d both refl

    right : Denotes mid (λ word. holds variables word consequence) (get_or sets 1 e)
    right = denotes_later old mid (λ word. holds variables word consequence) (get_or sets 1 e) first (one_denotes old variables (premise ∷ consequence ∷ []) sets 1 consequence e both refl)

    by : (b c g : Bool) → ((b && not (b && c)) || (b && g)) ≡ (b && (not c || g))
    by true c g = refl
    by false c g = refl
