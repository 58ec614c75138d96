-- A loop over two lists side by side, which puts together or adds what each pair gives.
use Rattle.std.proofs.Common.{◌≡◌, ℕ, ◌+◌, ◌<◌, min, List, [], ◌∷◌, ◌++◌, length, get_or, take, sym, ap, ◌∙◌, arith}
use Rattle.std.specs.Prelude.{sum_by}
use Rattle.std.specs.List.{flat_map, zip}
use Rattle.std.proofs.lemmas.List.{append-nil, take_more}
use Rattle.std.proofs.lemmas.List.Sums.{sum_by_push}
use Rattle.std.proofs.Math.Seq.{take-length}
use Rattle.std.proofs.lemmas.Grind.{flat_map-append}
use Rattle.std.proofs.lemmas.Slice.Zip.{length-zip, get_or-zip}

module _ {A B : Type 0} (xs : List A) (ys : List B) where
  -- one pair more
  pair_more : (n : ℕ) (a : A) (b : B) → n < length xs → n < length ys → a ≡ get_or xs n a → b ≡ get_or ys n b →
      take (n + 1) (zip xs ys) ≡ take n (zip xs ys) ++ (a, b) ∷ []
  pair_more n a b in_xs in_ys is_a is_b =
      let below : n < length (zip xs ys) = omega (arith, length-zip xs ys) in
      let pair : get_or (zip xs ys) n (a, b) ≡ (a, b) = get_or-zip xs ys n (a, b) in_xs in_ys ∙ ap (λ x. (x, get_or ys n b)) (sym is_a) ∙ ap (λ y. (a, y)) (sym is_b) in
      take_more (zip xs ys) n (a, b) below ∙ ap (λ p. take n (zip xs ys) ++ p ∷ []) pair

  -- all pairs
  pub zip_all : (n : ℕ) → n ≡ min (length xs) (length ys) → take n (zip xs ys) ≡ zip xs ys
  zip_all n end = ap (λ k. take k (zip xs ys)) (end ∙ sym (length-zip xs ys)) ∙ take-length (zip xs ys)

  -- what a pair adds to a sum
  pub sum_zip_more : (f : A × B → ℕ) (n : ℕ) (a : A) (b : B) → n < length xs → n < length ys → a ≡ get_or xs n a → b ≡ get_or ys n b →
      sum_by f (take (n + 1) (zip xs ys)) ≡ sum_by f (take n (zip xs ys)) + f (a, b)
  sum_zip_more f n a b in_xs in_ys is_a is_b =
      ap (sum_by f) (pair_more n a b in_xs in_ys is_a is_b) ∙ sum_by_push f (take n (zip xs ys)) (a, b)

module _ {A B X : Type 0} (f : A × B → List X) (xs : List A) (ys : List B) where
  -- one pair more
  pub zip_more : (n : ℕ) (a : A) (b : B) → n < length xs → n < length ys → a ≡ get_or xs n a → b ≡ get_or ys n b →
      flat_map f (take (n + 1) (zip xs ys)) ≡ flat_map f (take n (zip xs ys)) ++ f (a, b)
  zip_more n a b in_xs in_ys is_a is_b =
      ap (flat_map f) (pair_more xs ys n a b in_xs in_ys is_a is_b) ∙ flat_map-append f (take n (zip xs ys)) ((a, b) ∷ [])
      ∙ ap (λ more. flat_map f (take n (zip xs ys)) ++ more) (append-nil (f (a, b)))
