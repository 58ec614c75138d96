-- Values of a name, and the words that take them.
use Rattle.std.proofs.Common.{◌≡◌, ℕ, ◌+◌, ◌<◌, ◌≤◌, nat_eq, Bool, true, false, ◌&&◌, ◌||◌, List, [], ◌∷◌, ◌++◌, length, Option, Some, refl, sym, ap, ◌∙◌, arith, inl, inr}
use Rattle.std.specs.List.{list_any}
use Rattle.std.specs.Option.{option_map}
use Rattle.std.proofs.lemmas.Bool.{cases_eq, cases_lt, eq-eqb, ne_eqb, or_right, or_from}
use Rattle.std.proofs.lemmas.List.Folds.{list_any-append}
use Rattle.std.proofs.lemmas.Option.{slice_get_past}
use Rattle.pc_diagram.specs.Words.{is_word}
use Rattle.pc_diagram.specs.Fitting.{is_number, takes}
use Rattle.pc_file.specs.declared.variable.Value.{Value}
use Rattle.pc_file.specs.Rule.{same_name}
use Rattle.pc_build.specs.Named.{name_of, name_at}
use Rattle.pc_build.proofs.WordLemmas.{TakenAt, taken_at}

-- the value at a place has this name
abbrev pub is_named : List Value → List ℕ → ℕ → Bool
is_named values name value = same_name (Some name) (name_of values value)

-- how many values have been looked at for their names
pub record Placed (values : List Value) (name : List ℕ) (done : ℕ) (places : List ℕ) : Type 0 where
  pub before : (k : ℕ) → k < done → list_any (nat_eq k) places ≡ is_named values name k
  pub after : (k : ℕ) → done ≤ k → list_any (nat_eq k) places ≡ false

pub placed_none : (values : List Value) (name : List ℕ) → Placed values name 0 []
placed_none values name = record { before = λ k lt. absurd (omega arith); after = λ k le. refl }

pub placed_one : (values : List Value) (name : List ℕ) (done : ℕ) (places : List ℕ) → Placed values name done places → is_named values name done ≡ true → Placed values name (done + 1) (places ++ done ∷ [])
placed_one values name done places h here = record {
  before = λ k lt. elim (cases_eq k done) [
    | inl same ↦ more k ∙ or_right (list_any (nat_eq k) places) (nat_eq k done || false) (ap (λ b. b || false) (eq-eqb k done same)) ∙ sym here ∙ ap (is_named values name) (sym same)
    | inr differs ↦ more k ∙ ap (λ b. list_any (nat_eq k) places || (b || false)) (ne_eqb k done differs) ∙ or_false (list_any (nat_eq k) places) ∙ h.before k (omega arith)
  ];
  after = λ k le. more k ∙ or_from (list_any (nat_eq k) places) (nat_eq k done || false) (h.after k (omega arith)) (ap (λ b. b || false) (ne_eqb k done (λ same. omega arith)));
}
  where
    more : (k : ℕ) → list_any (nat_eq k) (places ++ done ∷ []) ≡ (list_any (nat_eq k) places || (nat_eq k done || false))
    more k = list_any-append (nat_eq k) places (done ∷ [])

    or_false : (b : Bool) → (b || false) ≡ b
    or_false true = refl
    or_false false = refl

pub placed_skip : (values : List Value) (name : List ℕ) (done : ℕ) (places : List ℕ) → Placed values name done places → is_named values name done ≡ false → Placed values name (done + 1) places
placed_skip values name done places h here = record {
  before = λ k lt. elim (cases_eq k done) [
    | inl same ↦ h.after k (omega arith) ∙ sym here ∙ ap (is_named values name) (sym same)
    | inr differs ↦ h.before k (omega arith)
  ];
  after = λ k le. h.after k (omega arith);
}

pub placed_all : (values : List Value) (name : List ℕ) (done : ℕ) (places : List ℕ) → length values ≤ done → Placed values name done places → (k : ℕ) → list_any (nat_eq k) places ≡ is_named values name k
placed_all values name done places past h k = elim (cases_lt k done) [
  | inl lt ↦ h.before k lt
  | inr ge ↦ h.after k ge ∙ ap (λ (o : Option Value). same_name (Some name) (option_map (λ v. v.name) o)) (sym (slice_get_past values k (omega arith)))
]

-- words that take a value of this name at a place
pub named_words : (domains : List ℕ) (values : List Value) (name : List ℕ) (places : List ℕ) (place : ℕ) (word : List ℕ) → place < length domains → ((value : ℕ) → list_any (nat_eq value) places ≡ is_named values name value) →
    (is_word domains word && list_any (takes word place) places) ≡ (is_word domains word && same_name (Some name) (name_at values word place))
named_words domains values name places place word lt h = by (is_word domains word) refl
  where
    by : (b : Bool) → is_word domains word ≡ b → (b && list_any (takes word place) places) ≡ (b && same_name (Some name) (name_at values word place))
    by false e = refl
    by true e =
        let at : TakenAt domains word place = taken_at domains word place lt e in
        ap (λ o. list_any (is_number o) places) at.taken
        ∙ h at.value
        ∙ ap (λ (o : Option ℕ). same_name (Some name) (Rattle.std.specs.Prelude.option_and_then (name_of values) o)) (sym at.taken)
