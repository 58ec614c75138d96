-- The number that a word spells.
use Rattle.std.proofs.Common.{◌≡◌, ℕ, zero, suc, ◌+◌, ◌<◌, ◌≤◌, ◌^◌, ℤ, pos, negsuc, FitsSigned, w64, cond, Bool, true, false, nat_le, List, length, Option, Some, None, decimal, position, slice_get, refl, sym, ap, ◌∙◌, arith}
use Rattle.std.specs.List.{list_all}
use Rattle.std.specs.Option.{unwrap_or}
use Rattle.std.specs.Fmt.{signed_decimal}
use Rattle.std.proofs.lemmas.Fmt.{decimal_injective, signed_decimal_injective}
use Rattle.std.proofs.lemmas.Option.{slice_get_within}
use Rattle.std.proofs.Math.Dec.{leb}
use lib.Signed.{mag}
use Rattle.std.proofs.lemmas.Bool.Decides.{nat_tests}
use Rattle.pc_names.specs.Places.{IsFirstPlace}
use Rattle.pc_names.proofs.Places.{first_place_of_name}
use Rattle.pc_names.specs.Spelling.{same_spelling}
use Rattle.pc_names.proofs.NumberText.{small}
use Rattle.pc_rules.specs.Counts.{spellings, count_of, small_number}
use Rattle.pc_rules.proofs.ListPlaces.{all_at}

spellings-at : (count first k : ℕ) → k < count → slice_get (spellings count first) k ≡ Some (decimal (first + k))
spellings-at zero first k below = absurd (omega arith)
spellings-at (suc count) first zero below = let same : first ≡ first + 0 = omega arith in ap (λ n. Some (decimal n)) same
spellings-at (suc count) first (suc k) below =
    let same : (first + 1) + k ≡ first + suc k = omega arith in
    spellings-at count (first + 1) k (omega arith) ∙ ap (λ n. Some (decimal n)) same

length-spellings : (count first : ℕ) → length (spellings count first) ≡ count
length-spellings zero first = refl
length-spellings (suc count) first = ap suc (length-spellings count (first + 1))

the_word : (a b : List ℕ) → Some a ≡ Some b → a ≡ b
the_word a b e = ap (λ o. unwrap_or o a) e

module _ (word : List ℕ) where
  place : (found : Option ℕ) → found ≡ position (same_spelling word) (spellings 65 0) → IsFirstPlace (spellings 65 0) word found
  place found is = first_place_of_name (spellings 65 0) word found is

  -- what is found is spelled so
  found_spells : (n : ℕ) → slice_get (spellings 65 0) n ≡ Some word → (n ≤ 64) × (decimal n ≡ word)
  found_spells n at =
      let within : n < length (spellings 65 0) = slice_get_within (spellings 65 0) n word at in
      let count : length (spellings 65 0) ≡ 65 = length-spellings 65 0 in
      let below : n < 65 = omega (arith, within, count) in
      let same : 0 + n ≡ n = omega arith in
      (omega (arith, below), the_word _ _ (sym (ap (λ k. Some (decimal k)) same) ∙ sym (spellings-at 65 0 n below) ∙ at))

  spelled_at : (n : ℕ) → n ≤ 64 → word ≡ decimal n → slice_get (spellings 65 0) n ≡ Some word
  spelled_at n small is =
      let same : 0 + n ≡ n = omega arith in
      spellings-at 65 0 n (omega arith) ∙ ap (λ k. Some (decimal k)) same ∙ ap Some (sym is)

  is_count : (n : ℕ) → n ≤ 64 → word ≡ decimal n → (found : Option ℕ) → IsFirstPlace (spellings 65 0) word found → found ≡ Some n
  is_count n small is None nowhere = absurd (nowhere n (spelled_at n small is))
  is_count n small is (Some m) there =
      let spelled = found_spells m there.0 in
      let little_m : m < 2 ^ 64 = omega (arith, spelled.0) in
      let little_n : n < 2 ^ 64 = omega (arith, small) in
      ap Some (decimal_injective m n little_m little_n (spelled.1 ∙ is))

  no_count : ((n : ℕ) → n ≤ 64 → word ≡ decimal n → ⊥) → (found : Option ℕ) → IsFirstPlace (spellings 65 0) word found → found ≡ None
  no_count none None nowhere = refl
  no_count none (Some m) there = let spelled = found_spells m there.0 in absurd (none m spelled.0 (sym spelled.1))

  -- a number that is found is small
  pub count_of-small : (n : ℕ) → count_of word ≡ Some n → n ≤ 64
  unfolding count_of
  count_of-small n found = let at = place (Some n) (sym found) in (found_spells n at.0).0

  -- the number that the word spells
  pub count_of_spelled : (n : ℕ) → n ≤ 64 → word ≡ decimal n → count_of word ≡ Some n
  unfolding count_of
  count_of_spelled n small is = is_count n small is (position (same_spelling word) (spellings 65 0)) (place _ refl)

  -- no number
  pub count_of_none : ((n : ℕ) → n ≤ 64 → word ≡ decimal n → ⊥) → count_of word ≡ None
  unfolding count_of
  count_of_none none = no_count none (position (same_spelling word) (spellings 65 0)) (place _ refl)

  -- the number of 64 bits that the word spells, where it is small
  pub count_of_read : (z : ℤ) → FitsSigned w64 z → word ≡ signed_decimal z → small_number z ≡ count_of word
  count_of_read (pos n) fits is = by (nat_le n 64) refl
    where
      by : (b : Bool) → nat_le n 64 ≡ b → cond b (Some n) None ≡ count_of word
      by true le = let below : n ≤ 64 = grind (arith, nat_tests) in sym (count_of_spelled n below is)
      by false le =
          let above : 64 < n = grind (arith, nat_tests) in
          let n_small : n < 2 ^ 64 = omega (arith, small (pos n) fits) in
          sym (count_of_none (λ m below is_m. let m_small : m < 2 ^ 64 = omega arith in let same : n ≡ m = decimal_injective n m n_small m_small (sym is ∙ is_m) in absurd (omega arith)))
  count_of_read (negsuc n) fits is =
      sym (count_of_none (λ m below is_m.
      let m_small : mag (pos m) < 2 ^ 63 = omega arith in
      let same : negsuc n ≡ pos m = signed_decimal_injective (negsuc n) (pos m) (small (negsuc n) fits) m_small (sym is ∙ is_m) in absurd cc))

  -- no number is read
  pub count_of_unread : (result : Option ℤ) → result ≡ None → ((z : ℤ) → FitsSigned w64 z → word ≡ signed_decimal z → result ≡ Some z) → None ≡ count_of word
  count_of_unread result none read =
      sym (count_of_none (λ m below is.
      let fits : FitsSigned w64 (pos m) = fits_small m below in
      let e : result ≡ Some (pos m) = read (pos m) fits is in absurd (none≢some result (pos m) none e)))
    where
      none≢some : (o : Option ℤ) (z : ℤ) → o ≡ None → o ≡ Some z → ⊥
      none≢some o z a b = let e : None ≡ Some z = sym a ∙ b in cc

      fits_small : (m : ℕ) → m ≤ 64 → FitsSigned w64 (pos m)
      fits_small m below = record { sfits = omega arith }

-- a test that all such spellings pass
pub small_passes : (test : List ℕ → Bool) (n : ℕ) → list_all test (spellings 65 0) ≡ true → n ≤ 64 → test (decimal n) ≡ true
small_passes test n all small = all_at test (spellings 65 0) n (decimal n) all (spelled_at (decimal n) n small refl)
