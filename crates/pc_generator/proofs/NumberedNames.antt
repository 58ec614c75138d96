-- A letter and a number of at most two digits are a name.
use Rattle.std.proofs.Common.{◌≡◌, ℕ, ◌≤◌, true, false, List, [], ◌∷◌, length, refl, ap, ◌∙◌, arith}
use Rattle.std.specs.Prelude.{decimal, Result, Ok, Err, MatchResult}
use Rattle.std.specs.Result.{IsOk}
use Rattle.std.specs.List.{list_all}
use Rattle.std.specs.Str.{all_ascii_digits}
use Rattle.std.proofs.lemmas.Bool.{both_ways}
use Rattle.std.proofs.lemmas.Fmt.{digits_decimal, length-decimal-le}
use Rattle.std.proofs.lemmas.Str.Parse.{numerals_by_value, tells_all_ascii_digits}
use Rattle.pc_names.specs.Name.{is_letter, is_name, is_name_byte}

digits-named : (digits : List ℕ) → all_ascii_digits digits ≡ true → list_all is_name_byte digits ≡ true
digits-named [] are = refl
digits-named (d ∷ digits) are = grind (arith, digits-named digits)

pub numbered : (letter number : ℕ) → is_letter letter ≡ true → number ≤ 64 → is_name (letter ∷ decimal number) ≡ true
numbered letter number first small =
    let short : length (decimal number) ≤ 2 = length-decimal-le 2 number (omega arith) (omega (arith, small)) (omega (arith, small)) in
    let named = digits-named (decimal number) (digits_decimal (numerals_by_value _ tells_all_ascii_digits) number (omega (arith, small))) in
    grind (arith, first, short, named)

-- what is read of such bytes is a name
pub reads : {Name Fault : Type 0} (result : Result Name Fault) (P : Name → Type 0) (letter number : ℕ) (bytes : List ℕ) → MatchResult result P (λ _. is_name bytes ≡ false) → bytes ≡ letter ∷ decimal number → is_letter letter ≡ true → number ≤ 64 → IsOk result
reads (Ok name) P letter number bytes told is first small = refl
reads (Err fault) P letter number bytes told is first small = absurd (both_ways (is_name bytes) told (ap is_name is ∙ numbered letter number first small))
