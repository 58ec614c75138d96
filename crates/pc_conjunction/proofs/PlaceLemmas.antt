-- What places of layers have.
use Rattle.std.proofs.Common.{◌≡◌, ℕ, ◌<◌, ◌≤◌, nat_lt, Bool, true, false, ◌&&◌, List, [], ◌∷◌, length, get_or, refl, sym, ap, ◌∙◌, arith, true≢false}
use Rattle.std.proofs.lemmas.Bool.Decides.{nat_tests}
use Rattle.std.proofs.lemmas.List.{get_or_past}
use Rattle.pc_diagram.specs.Words.{is_word}
use Rattle.pc_conjunction.specs.declared.layer.Layer.{Layer}
use Rattle.pc_conjunction.specs.Places.{column, entry, place_count, domains, accepts, IsColumn, IsLayer, IsLayered}

-- the column of a value is one of its layer
pub column_is : (below : ℕ) (layer : Layer) → IsLayer below layer → (value : ℕ) → value < length layer.columns.items → IsColumn layer.count below (column layer value)
column_is below layer h value lt = h.columns value [] lt

-- past the last value stands place 0
pub entry_past : (layer : Layer) (place value : ℕ) → length layer.columns.items ≤ value → entry layer place value ≡ 0
entry_past layer place value ge = ap (λ (c : List ℕ). get_or c place 0) (get_or_past layer.columns.items value [] ge)

pub entry_empty : (below : ℕ) (layer : Layer) → IsLayer below layer → (value : ℕ) → entry layer 0 value ≡ 0
entry_empty below layer h value = by (nat_lt value (length layer.columns.items)) refl
  where
    by : (b : Bool) → nat_lt value (length layer.columns.items) ≡ b → entry layer 0 value ≡ 0
    by true inside = (column_is below layer h value (grind (arith, nat_tests))).empty
    by false past = entry_past layer 0 value (grind (arith, nat_tests))

pub two_places : (layers : List Layer) → IsLayered layers → 1 < place_count layers
two_places [] h = omega arith
two_places (layer ∷ layers) h = h.0.two

-- place 0 has no word
pub empty_place : (layers : List Layer) → IsLayered layers → (word : List ℕ) → accepts layers 0 word ≡ false
empty_place [] h [] = refl
empty_place [] h (value ∷ word) = refl
empty_place (layer ∷ layers) h [] = refl
empty_place (layer ∷ layers) h (value ∷ word) = rw (entry_empty (place_count layers) layer h.0 value) (empty_place layers h.1 word)

-- where a place goes on is a place of the next layer
pub entry_within : (layer : Layer) (layers : List Layer) → IsLayered (layer ∷ layers) → (place value : ℕ) → entry layer place value < place_count layers
entry_within layer layers h place value = by (nat_lt value (length layer.columns.items)) refl
  where
    two : 1 < place_count layers
    two = two_places layers h.1

    here : value < length layer.columns.items → (b : Bool) → nat_lt place (length (column layer value)) ≡ b → entry layer place value < place_count layers
    here inside true lt = (column_is (place_count layers) layer h.0 value inside).within place 0 (grind (arith, nat_tests))
    here inside false past = rw (get_or_past (column layer value) place 0 (grind (arith, nat_tests))) (let t = two in omega arith)

    by : (b : Bool) → nat_lt value (length layer.columns.items) ≡ b → entry layer place value < place_count layers
    by false past = rw (entry_past layer place value (grind (arith, nat_tests))) (let t = two in omega arith)
    by true inside = here (grind (arith, nat_tests)) (nat_lt place (length (column layer value))) refl

-- what a place has are words over the numbers of values
pub accepts_over : (layers : List Layer) → IsLayered layers → (place : ℕ) (word : List ℕ) → accepts layers place word ≡ true → is_word (domains layers) word ≡ true
accepts_over [] h place [] has = refl
accepts_over [] h place (value ∷ word) has = has
accepts_over (layer ∷ layers) h place [] has = has
accepts_over (layer ∷ layers) h place (value ∷ word) has = by (accepts_over layers h.1 (entry layer place value) word has) (nat_lt value (length layer.columns.items)) refl
  where
    by : is_word (domains layers) word ≡ true → (b : Bool) → nat_lt value (length layer.columns.items) ≡ b → (b && is_word (domains layers) word) ≡ true
    by rest true inside = rest
    by rest false past =
        let none = rw (entry_past layer place value (grind (arith, nat_tests))) at has in
        absurd (true≢false (sym none ∙ empty_place layers h.1 word))
