-- The number that a text writes.
use Rattle.std.proofs.Common.{◌≡◌, ℕ, suc, ℤ, pos, negsuc, neg_ℤ, ◌^◌, ◌<◌, ◌==◌, Bool, true, false, ◌&&◌, cond, List, [], ◌∷◌, slice_index, Option, Some, None, IfSome, FitsSigned, refl, sym, ap, ◌∙◌, arith, w64}
use Rattle.std.specs.Fmt.{signed_decimal, decimal}
use Rattle.std.specs.Str.Parse.{AllDigits}
use Rattle.std.specs.Cmp.Lexicographic.{pointwise}
use Rattle.std.proofs.lemmas.Bool.Decides.{nat_tests}
use Rattle.std.proofs.lemmas.Int.{ints}
use Rattle.std.proofs.lemmas.Fmt.{digits_value-decimal, digits_decimal}
use Rattle.std.proofs.lemmas.Str.Parse.{numerals_by_value, tells_digits, digit_from_value}
use Rattle.pc_base.proofs.DistinctLemmas.{both_true_parts}
use Rattle.pc_names.specs.Number.{number_written, is_small, int_of}
use Rattle.pc_names.proofs.NumberText.{small}
use Rattle.pc_names.proofs.Places.{name_eq-Decides}

no_minus : (ds : List ℕ) → AllDigits 10 ds → (slice_index ds 0 == 45) ≡ false
no_minus [] digits = refl
no_minus (d ∷ ds) digits = let digit = digit_from_value d digits.0 in grind (arith, nat_tests)

-- of its own spelling
pub number_of_spelling : (z : ℤ) → FitsSigned w64 z → number_written (signed_decimal z) ≡ z
number_of_spelling (pos n) fits =
    let below : n < 2 ^ 64 = omega (arith, small (pos n) fits) in
    let own = numerals_by_value (AllDigits 10) tells_digits in
    rw (no_minus (decimal n) (digits_decimal own n below)) (ap pos (digits_value-decimal own n below))
number_of_spelling (negsuc n) fits =
    let below : suc n < 2 ^ 64 = omega (arith, small (negsuc n) fits) in
    let own = numerals_by_value (AllDigits 10) tells_digits in
    ap (λ m. neg_ℤ (pos m)) (digits_value-decimal own (suc n) below)

fits_is_small : (z : ℤ) → FitsSigned w64 z → is_small z ≡ true
fits_is_small (pos n) fits = let below = small (pos n) fits in grind (arith, ints, nat_tests)
fits_is_small (negsuc n) fits = let below = small (negsuc n) fits in grind (arith, ints, nat_tests)

small_fits : (z : ℤ) → is_small z ≡ true → FitsSigned w64 z
small_fits (pos n) h = record { sfits = grind (arith, ints, nat_tests) }
small_fits (negsuc n) h = record { sfits = grind (arith, ints, nat_tests) }

pub int_of_spelling : (z : ℤ) → FitsSigned w64 z → int_of (signed_decimal z) ≡ Some z
unfolding int_of
int_of_spelling z fits =
    rw (number_of_spelling z fits, fits_is_small z fits, (name_eq-Decides (signed_decimal z) (signed_decimal z)).1 refl) refl

some_chosen : (b : Bool) (x y : ℤ) → cond b (Some x) None ≡ Some y → (b ≡ true) × (x ≡ y)
some_chosen true x y e = (refl, cc)
some_chosen false x y e = absurd cc

-- what is found is spelt so
pub int_of_found : (bytes : List ℕ) (z : ℤ) → int_of bytes ≡ Some z → (bytes ≡ signed_decimal z) × (is_small z ≡ true)
unfolding int_of
int_of_found bytes z found =
    let written = number_written bytes in
    let small_test = is_small written in
    let same_test = pointwise ◌==◌ (signed_decimal written) bytes in
    let chosen = some_chosen (small_test && same_test) written z found in
    let parts = both_true_parts small_test same_test chosen.0 in
    (sym ((name_eq-Decides (signed_decimal written) bytes).0 parts.1) ∙ ap signed_decimal chosen.1, ap is_small (sym chosen.1) ∙ parts.0)

-- the one answer that is exact in both directions
pub int_of_is : (bytes : List ℕ) (read : Option ℤ) → IfSome read (FitsSigned w64) → ((z : ℤ) → FitsSigned w64 z → bytes ≡ signed_decimal z → read ≡ Some z) →
    IfSome read (λ z. bytes ≡ signed_decimal z) → read ≡ int_of bytes
int_of_is bytes (Some z) fits exact spelt = sym (ap int_of spelt ∙ int_of_spelling z fits)
int_of_is bytes None fits exact spelt = by (int_of bytes) refl
  where
    by : (o : Option ℤ) → int_of bytes ≡ o → None ≡ o
    by None e = refl
    by (Some z) e =
        let found = int_of_found bytes z e in
        exact z (small_fits z found.1) found.0
