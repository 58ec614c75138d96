-- Sizes of printed rules.
use Rattle.std.proofs.Common.{◌≡◌, ℕ, ◌+◌, ◌-◌, ◌*◌, List, [], ◌∷◌, ◌++◌, length, map, refl, ap, sym, ◌∙◌, arith, length-append}
use Rattle.std.specs.Prelude.{sum_by, codes}
use Rattle.std.specs.Fmt.{decimal}
use Rattle.std.specs.List.{flat_map, join_by}
use Rattle.std.proofs.lemmas.List.Concat.{length-flat_map}
use Rattle.std.proofs.lemmas.List.Folds.{flat_map-map}
use Rattle.std.proofs.lemmas.List.Sums.{sum_by-cons}
use Rattle.pc_file.specs.declared.variable.Variable.{Variable}
use Rattle.pc_file.specs.declared.rule.Rule.{Rule, Rule-F, fold-roll-Rule}
use Rattle.pc_file.specs.declared.rule.Rule.TheVariants.{And, Or, Implies, Same, AtMost, rolls-And, rolls-Or, rolls-Implies, rolls-Same, rolls-AtMost}
use Rattle.pc_file.specs.PrintedRule.{Printed, printing, printing_step, printed_variable, printed_rule, printed_in_place, in_place}

-- a separator before each
sum-separated : {X : Type 0} (f : X → List ℕ) (separator : List ℕ) (xs : List X) →
    sum_by (λ x. length (separator ++ f x)) xs ≡ sum_by (λ x. length (f x)) xs + length xs * length separator
sum-separated f separator [] = omega arith
sum-separated f separator (x ∷ xs) =
    let one = sum_by-cons (λ x. length (separator ++ f x)) x xs in
    let other = sum_by-cons (λ x. length (f x)) x xs in
    let rest = sum-separated f separator xs in
    grind (arith, one, other, rest, length-append separator (f x))

-- the size of items with a separator between each two
pub length-join_by : {X : Type 0} (f : X → List ℕ) (separator : List ℕ) (xs : List X) →
    length (join_by f separator xs) ≡ sum_by (λ x. length (f x)) xs + (length xs - 1) * length separator
length-join_by f separator [] = omega arith
length-join_by f separator (x ∷ xs) =
    let one = sum_by-cons (λ x. length (f x)) x xs in
    let rest = sum-separated f separator xs in
    let flat = length-flat_map (λ x. separator ++ f x) xs in
    grind (arith, one, rest, flat, length-append (f x) (flat_map (λ x. separator ++ f x) xs))

join_by-map : {X Y : Type 0} (f : Y → List ℕ) (separator : List ℕ) (h : X → Y) (xs : List X) → join_by f separator (map h xs) ≡ join_by (λ x. f (h x)) separator xs
join_by-map f separator h [] = refl
join_by-map f separator h (x ∷ xs) = ap (λ rest. f (h x) ++ rest) (flat_map-map (λ y. separator ++ f y) h xs)

pub printed-And : (variables : List Variable) (members : List Rule) → printed_rule variables (And members) ≡ join_by (printed_in_place 3 variables) (codes " and ") members
printed-And variables members =
    ap (printed_rule variables) (sym (rolls-And members)) ∙ ap (λ p. p.text) (fold-roll-Rule Printed (printing_step variables) (Rule-F.And members))
    ∙ join_by-map (in_place 3) (codes " and ") (printing variables) members

pub printed-Or : (variables : List Variable) (members : List Rule) → printed_rule variables (Or members) ≡ join_by (printed_in_place 2 variables) (codes " or ") members
printed-Or variables members =
    ap (printed_rule variables) (sym (rolls-Or members)) ∙ ap (λ p. p.text) (fold-roll-Rule Printed (printing_step variables) (Rule-F.Or members))
    ∙ join_by-map (in_place 2) (codes " or ") (printing variables) members

pub printed-AtMost : (variables : List Variable) (most : ℕ) (members : List Rule) →
    printed_rule variables (AtMost most members) ≡ codes "atmost " ++ decimal most ++ codes " (" ++ join_by (printed_in_place 0 variables) (codes ", ") members ++ codes ")"
printed-AtMost variables most members =
    ap (printed_rule variables) (sym (rolls-AtMost most members)) ∙ ap (λ p. p.text) (fold-roll-Rule Printed (printing_step variables) (Rule-F.AtMost most members))
    ∙ ap (λ text. codes "atmost " ++ decimal most ++ codes " (" ++ text ++ codes ")") (join_by-map (in_place 0) (codes ", ") (printing variables) members)

pub printed-Implies : (variables : List Variable) (premise consequence : Rule) →
    printed_rule variables (Implies premise consequence) ≡ printed_in_place 1 variables premise ++ codes " => " ++ printed_in_place 1 variables consequence
printed-Implies variables premise consequence =
    ap (printed_rule variables) (sym (rolls-Implies premise consequence)) ∙ ap (λ p. p.text) (fold-roll-Rule Printed (printing_step variables) (Rule-F.Implies premise consequence))

pub printed-Same : (variables : List Variable) (variable other : ℕ) →
    printed_rule variables (Same variable other) ≡ codes "same(" ++ printed_variable variables variable ++ codes ", " ++ printed_variable variables other ++ codes ")"
printed-Same variables variable other =
    ap (printed_rule variables) (sym (rolls-Same variable other)) ∙ ap (λ p. p.text) (fold-roll-Rule Printed (printing_step variables) (Rule-F.Same variable other))

-- sizes of texts of two parts
pub size_of_implication : (a b : List ℕ) → length (a ++ codes " => " ++ b) ≡ length a + length b + 4
size_of_implication a b = simp length-append (omega arith)

pub size_of_same : (a b : List ℕ) → length (codes "same(" ++ a ++ codes ", " ++ b ++ codes ")") ≡ length a + length b + 8
size_of_same a b = simp length-append (omega arith)

pub size_of_at_most : (a b : List ℕ) → length (codes "atmost " ++ a ++ codes " (" ++ b ++ codes ")") ≡ length a + length b + 10
size_of_at_most a b = simp length-append (omega arith)

pub size_of_table : (a b : List ℕ) → length (codes "table (" ++ a ++ codes ") {" ++ b ++ codes "}") ≡ length a + length b + 11
size_of_table a b = simp length-append (omega arith)
