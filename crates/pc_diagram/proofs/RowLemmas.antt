-- Rows among rows.
use Rattle.std.proofs.Common.{◌≡◌, Bool, false, ◌||◌, List, [], ◌∷◌, ◌++◌, map, refl, ap, ◌∙◌, if◌then◌else◌}
use Rattle.std.specs.List.{list_any}
use Rattle.std.proofs.lemmas.List.{map-append}

pub list_any-map : {X Y : Type 0} (p : Y → Bool) (f : X → Y) (xs : List X) → list_any p (map f xs) ≡ list_any (λ x. p (f x)) xs
list_any-map p f [] = refl
list_any-map p f (x ∷ xs) = ap (λ b. p (f x) || b) (list_any-map p f xs)

-- one key more, which isn't among them
pub put_new : {X Y : Type 0} (same : X → Bool) (f : X → Y) (keys more : List X) (x : X) → list_any same keys ≡ false → more ≡ (if list_any same keys then keys else keys ++ x ∷ []) → map f more ≡ map f keys ++ f x ∷ []
put_new same f keys more x new is =
    ap (map f) (is ∙ ap (λ b. if b then keys else keys ++ x ∷ []) new) ∙ map-append f keys (x ∷ [])
