-- A path is followed from its end on.
use Rattle.std.proofs.Common.{◌≡◌, ℕ, zero, suc, ◌+◌, List, [], ◌∷◌, ◌++◌, reverse, refl, sym, ◌∙◌, ap, append_assoc, arith}
use Rattle.std.proofs.lemmas.List.{append-nil, reverse-append}
use Rattle.pc_diagram.specs.declared.side.Side.{Side}
use Rattle.pc_diagram.specs.declared.side.Side.TheVariants.{Heads, Tails}
use Rattle.pc_pareto.specs.declared.back.Back.{Back}
use Rattle.pc_pareto.specs.declared.front_item.FrontItem.{FrontItem}
use Rattle.pc_pareto.specs.Fronts.{extended, item_at, word_at}
use Rattle.pc_pareto.specs.Joined.{joined}

-- one value more is taken
pub joined_more : (side : Side) (values rest : List ℕ) (value : ℕ) → joined side (values ++ value ∷ []) rest ≡ joined side values (extended side value rest)
joined_more Heads values rest value = ap (λ xs. rest ++ xs) (reverse-append values (value ∷ [])) ∙ sym (append_assoc rest (value ∷ []) (reverse values))
joined_more Tails values rest value = append_assoc values (value ∷ []) rest

pub joined_none : (side : Side) (rest : List ℕ) → joined side [] rest ≡ rest
joined_none Heads rest = append-nil rest
joined_none Tails rest = refl

-- the word of an item goes by its step back alone
abbrev pub word_back : Side → List (List (List FrontItem)) → ℕ → Back → List ℕ
word_back side stages zero back = []
word_back side stages (suc distance) back =
    extended side back.value (word_at side stages distance (item_at stages distance back.node back.place))

pub word_is : (side : Side) (stages : List (List (List FrontItem))) (distance : ℕ) (item : FrontItem) → word_at side stages distance item ≡ word_back side stages distance item.back
word_is side stages zero item = refl
word_is side stages (suc distance) item = refl

-- one step back
pub word_step : (side : Side) (stages : List (List (List FrontItem))) (left : ℕ) (back : Back) → word_back side stages (left + 1) back ≡ extended side back.value (word_back side stages left (item_at stages left back.node back.place).back)
word_step side stages left back =
    let e : left + 1 ≡ suc left = omega arith in
    ap (λ k. word_back side stages k back) e ∙ ap (extended side back.value) (word_is side stages left (item_at stages left back.node back.place))
