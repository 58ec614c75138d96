-- The words of a value, and the value that they give.
use Rattle.std.proofs.Common.{◌≡◌, ℕ, zero, suc, ◌+◌, ◌≤◌, ℤ, pos, negsuc, true, ◌==◌, ◌&&◌, List, [], ◌∷◌, length, drop, Option, Some, None, FitsSigned, refl, sym, ap, ◌∙◌, arith, w64}
use Rattle.std.specs.Fmt.{digits, signed_decimal}
use Rattle.std.specs.List.{list_all}
use Rattle.std.specs.Option.{unwrap_or}
use Rattle.std.specs.Ordering.{int_eq}
use Rattle.std.proofs.lemmas.Bool.{eqb-true}
use Rattle.std.proofs.lemmas.Bool.Decides.{nat_tests, Decides-int_eq}
use Rattle.std.proofs.lemmas.Int.{ints}
use Rattle.pc_base.proofs.DistinctLemmas.{both_true_parts}
use Rattle.pc_names.specs.Number.{int_of}
use Rattle.pc_names.proofs.Written.{int_of_spelling, int_of_found}
use Rattle.pc_file.specs.declared.variable.Value.{Value}
use Rattle.pc_file.specs.Limits.{is_cost, is_value}
use Rattle.pc_text.specs.Given.{value_given}
use Rattle.pc_text.specs.Orders.{keeps_range, is_cost_text}
use Rattle.pc_text.specs.Statement.{value_words}

pub cost_fits : (z : ℤ) → is_cost z ≡ true → FitsSigned w64 z
cost_fits (pos n) h = record { sfits = grind (arith, ints, nat_tests) }
cost_fits (negsuc n) h = record { sfits = grind (arith, ints, nat_tests) }

-- a cost is read back from its spelling
cost_read : (z : ℤ) → is_cost z ≡ true → int_of (signed_decimal z) ≡ Some z
cost_read z h = int_of_spelling z (cost_fits z h)

cost_text : (z : ℤ) → is_cost z ≡ true → is_cost_text (signed_decimal z) ≡ true
cost_text z h = ap keeps_range (cost_read z h) ∙ h

-- a word that spells a cost is the spelling of what it gives
cost_spelled : (word : List ℕ) → is_cost_text word ≡ true → word ≡ signed_decimal (unwrap_or (int_of word) (pos 0))
cost_spelled word h = by (int_of word) refl h
  where
    by : (o : Option ℤ) → int_of word ≡ o → keeps_range o ≡ true → word ≡ signed_decimal (unwrap_or o (pos 0))
    by None e r = absurd cc
    by (Some z) e r = (int_of_found word z e).0

no_number : int_of [] ≡ None
unfolding int_of digits
no_number = refl

pub record WordsFit (costs : ℕ) (value : Value) : Type 0 where
  pub count : (length (value_words costs value) == costs + 1) ≡ true
  pub numbers : list_all is_cost_text (drop 1 (value_words costs value)) ≡ true
  pub gives : value_given (value_words costs value) ≡ value

same_value : (value : Value) (first second : ℤ) → first ≡ value.first → second ≡ value.second → record { name = value.name; first = first; second = second } ≡ value
same_value value first second f s = rw (f, s) refl

-- the words of a value give it back
pub words_fit : (costs : ℕ) → 1 ≤ costs → costs ≤ 2 → (value : Value) → is_value costs value ≡ true → WordsFit costs value
words_fit zero low high value is = absurd (omega arith)
words_fit (suc zero) low high value is =
    let parts = both_true_parts (is_cost value.first && is_cost value.second) (int_eq value.second (pos 0)) is in
    let costs = both_true_parts (is_cost value.first) (is_cost value.second) parts.0 in
    let first = ap (λ o. unwrap_or o (pos 0)) (cost_read value.first costs.0) in
    let nothing = ap (λ o. unwrap_or o (pos 0)) no_number in
    let second = nothing ∙ sym ((Decides-int_eq value.second (pos 0)).0 parts.1) in
    record {
      count = refl;
      numbers = rw (cost_text value.first costs.0) refl;
      gives = same_value value _ _ first second;
    }
words_fit (suc (suc zero)) low high value is =
    let parts = both_true_parts (is_cost value.first && is_cost value.second) true is in
    let costs = both_true_parts (is_cost value.first) (is_cost value.second) parts.0 in
    let first = ap (λ o. unwrap_or o (pos 0)) (cost_read value.first costs.0) in
    let second = ap (λ o. unwrap_or o (pos 0)) (cost_read value.second costs.1) in
    record {
      count = refl;
      numbers = rw (cost_text value.first costs.0, cost_text value.second costs.1) refl;
      gives = same_value value _ _ first second;
    }
words_fit (suc (suc (suc costs))) low high value is = absurd (omega arith)

-- words of the right form are those of the value that they give
pub words_of_given : (costs : ℕ) → 1 ≤ costs → costs ≤ 2 → (arguments : List (List ℕ)) → (length arguments == costs + 1) ≡ true → list_all is_cost_text (drop 1 arguments) ≡ true →
    arguments ≡ value_words costs (value_given arguments)
words_of_given costs low high arguments count numbers = by costs low high arguments (eqb-true _ _ count) numbers
  where
    by : (costs : ℕ) → 1 ≤ costs → costs ≤ 2 → (arguments : List (List ℕ)) → length arguments ≡ costs + 1 → list_all is_cost_text (drop 1 arguments) ≡ true →
        arguments ≡ value_words costs (value_given arguments)
    by zero low high arguments count numbers = absurd (omega arith)
    by (suc zero) low high (name ∷ a ∷ []) count numbers =
        let first = cost_spelled a (both_true_parts (is_cost_text a) true numbers).0 in
        ap (λ w. name ∷ w ∷ []) first
    by (suc (suc zero)) low high (name ∷ a ∷ b ∷ []) count numbers =
        let parts = both_true_parts (is_cost_text a) (is_cost_text b && true) numbers in
        let first = cost_spelled a parts.0 in
        let second = cost_spelled b (both_true_parts (is_cost_text b) true parts.1).0 in
        ap (λ w. name ∷ w ∷ b ∷ []) first ∙ ap (λ w. name ∷ signed_decimal (unwrap_or (int_of a) (pos 0)) ∷ w ∷ []) second
    by (suc (suc (suc costs))) low high arguments count numbers = absurd (omega arith)
    by costs low high arguments count numbers = absurd (omega arith)
