-- Numbers and edges are told by their words.
use Rattle.std.proofs.Common.{◌≡◌, ℕ, zero, suc, ◌<◌, List, [], ◌∷◌, map, All, Option, Some, None, get_or, refl, sym, ap, ◌∙◌, arith}
use Rattle.std.specs.Fmt.{decimal}
use Rattle.std.proofs.lemmas.Fmt.{decimal_injective, decimal_digit, first_decimal}
use Rattle.std.proofs.lemmas.List.Elements.{All-head, All-tail}
use Rattle.pc_dump.specs.Dump.{edge_word}
use Rattle.pc_dump.specs.Form.{IsNumber, IsEdge}

pub number_injective : (m n : ℕ) → IsNumber m → IsNumber n → decimal m ≡ decimal n → m ≡ n
number_injective m n a b e = decimal_injective m n (omega arith) (omega arith) e

pub no_dash : (n : ℕ) → IsNumber n → decimal n ≡ 45 ∷ [] → ⊥
no_dash zero h e =
    let first : get_or (decimal 0) 0 0 ≡ 48 = ap (λ (l : List ℕ). get_or l 0 0) (decimal_digit 0 (omega arith)) in
    let byte : get_or (decimal 0) 0 0 ≡ 45 = ap (λ (l : List ℕ). get_or l 0 0) e in omega arith
no_dash (suc n) h e =
    let first : 48 < get_or (decimal (suc n)) 0 0 = first_decimal (suc n) (omega arith) (omega arith) in
    let byte : get_or (decimal (suc n)) 0 0 ≡ 45 = ap (λ l. get_or l 0 0) e in omega arith

pub edge_injective : (a b : Option ℕ) → IsEdge a → IsEdge b → edge_word a ≡ edge_word b → a ≡ b
edge_injective None None h k e = refl
edge_injective None (Some n) h k e = absurd (no_dash n k (sym e))
edge_injective (Some m) None h k e = absurd (no_dash m h e)
edge_injective (Some m) (Some n) h k e = ap (λ x. Some x) (number_injective m n h k e)

pub map_injective : {X : Type 0} (f : X → List ℕ) (P : X → Type 0) → ((a b : X) → P a → P b → f a ≡ f b → a ≡ b) → (xs ys : List X) → All P xs → All P ys → map f xs ≡ map f ys → xs ≡ ys
map_injective f P one [] [] h k e = refl
map_injective f P one [] (y ∷ ys) h k e = absurd cc
map_injective f P one (x ∷ xs) [] h k e = absurd cc
map_injective f P one (x ∷ xs) (y ∷ ys) h k e =
    let first : f x ≡ f y = cc in
    let others : map f xs ≡ map f ys = cc in
    let same_first : x ≡ y = one x y (All-head P x xs h) (All-head P y ys k) first in
    let same_others : xs ≡ ys = map_injective f P one xs ys (All-tail P x xs h) (All-tail P y ys k) others in
    ap (λ z. z ∷ xs) same_first ∙ ap (λ zs. y ∷ zs) same_others
