-- Words that are put one after the other.
use Rattle.std.proofs.Common.{◌≡◌, ℕ, zero, suc, ◌+◌, ◌<◌, List, [], ◌∷◌, ◌++◌, map, take, length, get_or, All, Option, sym, ap, ◌∙◌, arith, append_assoc}
use Rattle.std.proofs.lemmas.List.{map-append}
use Rattle.std.proofs.lemmas.List.Elements.{All-head, All-tail, All-push}
use Rattle.pc_dump.specs.Dump.{edge_word}
use Rattle.pc_dump.specs.Form.{IsEdge}
use Rattle.pc_dump.specs.Put.{AreEdgesPut}

-- what one of the words is
pub record Spelt {Y Z : Type 0} (g : Z → Y) (P : Z → Type 0) (y : Y) : Type 0 where
  pub item : Z
  pub holds : P item
  pub is : y ≡ g item

pub spelt_at : {X Y Z : Type 0} (f : X → Y) (g : Z → Y) (P : Z → Type 0) (xs : List X) (zs : List Z) → map f xs ≡ map g zs → All P zs → (i : ℕ) (d : X) → i < length xs → Spelt g P (f (get_or xs i d))
spelt_at f g P [] zs e all i d h = absurd (omega arith)
spelt_at f g P (x ∷ xs) [] e all i d h = absurd cc
spelt_at f g P (x ∷ xs) (z ∷ zs) e all zero d h =
    let same : f x ≡ g z = cc in record { item = z; holds = All-head P z zs all; is = same }
spelt_at f g P (x ∷ xs) (z ∷ zs) e all (suc i) d h =
    let rest : map f xs ≡ map g zs = cc in
    let less : i < length xs = omega arith in
    spelt_at f g P xs zs rest (All-tail P z zs all) i d less

pub put_more : {X Z : Type 0} (f : X → List ℕ) (g : Z → List ℕ) (xs : List X) (i : ℕ) (x : X) (zs : List Z) (z : Z) → take (i + 1) xs ≡ take i xs ++ x ∷ [] → map f (take i xs) ≡ map g zs → f x ≡ g z → map f (take (i + 1) xs) ≡ map g (zs ++ z ∷ [])
put_more f g xs i x zs z more so_far here =
    ap (map f) more ∙ map-append f (take i xs) (x ∷ []) ∙ ap (λ w. w ++ f x ∷ []) so_far ∙ ap (λ w. map g zs ++ w ∷ []) here ∙ sym (map-append g zs (z ∷ []))

pub edges_more : {X : Type 0} (f : X → List ℕ) (xs : List X) (i : ℕ) (x : X) (old mid new : List (Option ℕ)) (edge : Option ℕ) → take (i + 1) xs ≡ take i xs ++ x ∷ [] → AreEdgesPut (map f (take i xs)) old mid → f x ≡ edge_word edge → IsEdge edge → new ≡ mid ++ edge ∷ [] → AreEdgesPut (map f (take (i + 1) xs)) old new
edges_more f xs i x old mid new edge more so_far here small put = record {
  row = so_far.row ++ edge ∷ [];
  numbers = All-push IsEdge so_far.row edge so_far.numbers small;
  is = put_more f edge_word xs i x so_far.row edge more so_far.is here;
  put = put ∙ ap (λ l. l ++ edge ∷ []) so_far.put ∙ append_assoc old so_far.row (edge ∷ []);
}
