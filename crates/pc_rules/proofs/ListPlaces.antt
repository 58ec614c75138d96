-- What stands at a place of a list.
use Rattle.std.proofs.Common.{◌≡◌, ℕ, zero, suc, ◌<◌, Bool, true, List, [], ◌∷◌, length, Some, slice_get, refl, sym, ap, ◌∙◌, arith}
use Rattle.std.specs.List.{list_all}
use Rattle.std.specs.Option.{unwrap_or}
use Rattle.std.proofs.lemmas.Option.{slice_get_within}
use Rattle.std.proofs.lemmas.Bool.{and_parts}

module _ {X : Type 0} where
  pub nowhere : (n : ℕ) (x : X) → slice_get {X = X} [] n ≡ Some x → ⊥
  nowhere n x at = let below : n < length {A = X} [] = slice_get_within [] n x at in omega (arith, below)

  -- what stands at a place that the list has
  pub at_place : (xs : List X) (n : ℕ) → n < length xs → (x : X) × (slice_get xs n ≡ Some x)
  at_place [] n below = absurd (omega arith)
  at_place (x ∷ xs) zero below = (x, refl)
  at_place (x ∷ xs) (suc n) below = at_place xs n (omega arith)

  -- a test that each passes
  pub all_at : (test : X → Bool) (xs : List X) (n : ℕ) (x : X) → list_all test xs ≡ true → slice_get xs n ≡ Some x → test x ≡ true
  all_at test [] n x all at = absurd (nowhere n x at)
  all_at test (y ∷ xs) zero x all at = ap (λ o. test (unwrap_or o x)) (sym at) ∙ (and_parts (test y) (list_all test xs) all).0
  all_at test (y ∷ xs) (suc n) x all at = all_at test xs n x (and_parts (test y) (list_all test xs) all).1 at
