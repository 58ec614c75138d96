-- What is made of numbers in order, with one more.
use Rattle.std.proofs.Common.{◌≡◌, ℕ, ◌+◌, List, [], ◌∷◌, ◌++◌, map, sym, ap, ◌∙◌}
use Rattle.std.specs.List.{range_with_len}
use Rattle.std.proofs.lemmas.List.FromFn.{map-range_with_len_more}

pub one_more : {X : Type 0} (f : ℕ → X) (first count number : ℕ) (old new : List X) (item : X) → first + count ≡ number → new ≡ old ++ item ∷ [] → old ≡ map f (range_with_len first count) → item ≡ f number
    → new ≡ map f (range_with_len first (count + 1))
one_more f first count number old new item next pushed before is =
    pushed ∙ ap (λ xs. xs ++ item ∷ []) before ∙ ap (λ x. map f (range_with_len first count) ++ x ∷ []) is ∙ sym (map-range_with_len_more f first count number next)
