-- What nodes of layers have.
use Rattle.std.proofs.Common.{◌≡◌, ℕ, zero, suc, ◌<◌, ◌≤◌, ◌==◌, nat_eq, nat_lt, Bool, true, false, ◌&&◌, List, [], ◌∷◌, map, length, get_or, replicate, Some, slice_get, refl, sym, ap, ◌∙◌, arith, true≢false}
use Rattle.std.specs.Cmp.Lexicographic.{pointwise}
use Rattle.std.specs.List.{IsDistinct}
use Rattle.std.proofs.lemmas.Bool.Decides.{nat_tests}
use Rattle.std.proofs.lemmas.List.{get_or-replicate, get_or_past, ext_get_or, length-replicate}
use Rattle.std.proofs.lemmas.List.Elements.{All-from_recursion}
use Rattle.std.proofs.lemmas.Option.{get_or_from_slice_get}
use Rattle.std.proofs.lemmas.Slice.Eq.{bytes_eq-Decides}
use Rattle.pc_diagram.specs.Words.{is_word}
use Rattle.pc_store.specs.declared.layer.Layer.{Layer}
use Rattle.pc_store.specs.Layered.{row_of, node_count, accepts, IsRow, IsLayer, IsLayered}

-- a place at which something stands is within the list
pub stands_within : {X : Type 0} (xs : List X) (i : ℕ) (x : X) → slice_get xs i ≡ Some x → i < length xs
stands_within [] i x h = absurd cc
stands_within (y ∷ xs) zero x h = omega arith
stands_within (y ∷ xs) (suc i) x h = let rest = stands_within xs i x h in omega arith

-- each layer has the two first nodes
pub two_nodes : (layers : List Layer) → IsLayered layers → 1 < node_count layers
two_nodes [] h = omega arith
two_nodes (layer ∷ layers) h = stands_within layer.table 1 (replicate layer.domain 1) h.0.full

-- a number at any place of equal numbers
all_zero : (n i : ℕ) → ◌≡◌ {A = ℕ} (get_or (replicate n 0) i 0) 0
all_zero zero i = refl
all_zero (suc n) zero = refl
all_zero (suc n) (suc i) = all_zero n i

row_zero : (below : ℕ) (layer : Layer) → IsLayer below layer → (value : ℕ) → get_or (row_of layer 0) value 0 ≡ 0
row_zero below layer h value = rw (get_or_from_slice_get layer.table 0 (replicate layer.domain 0) [] h.empty) (all_zero layer.domain value)

-- node 0 has no word
pub empty_node : (layers : List Layer) → IsLayered layers → (word : List ℕ) → accepts layers 0 word ≡ false
empty_node [] h [] = refl
empty_node [] h (value ∷ word) = refl
empty_node (layer ∷ layers) h [] = refl
empty_node (layer ∷ layers) h (value ∷ word) = rw (row_zero (node_count layers) layer h.0 value) (empty_node layers h.1 word)

-- node 1 has every word
pub full_node : (layers : List Layer) → IsLayered layers → (word : List ℕ) → accepts layers 1 word ≡ is_word (map (λ layer. layer.domain) layers) word
full_node [] h [] = refl
full_node [] h (value ∷ word) = refl
full_node (layer ∷ layers) h [] = refl
full_node (layer ∷ layers) h (value ∷ word) =
    rw (get_or_from_slice_get layer.table 1 (replicate layer.domain 1) [] h.0.full) (by (full_node layers h.1 word) (nat_lt value layer.domain) refl)
  where
    by : accepts layers 1 word ≡ is_word (map (λ layer. layer.domain) layers) word → (b : Bool) → nat_lt value layer.domain ≡ b → accepts layers (get_or (replicate layer.domain 1) value 0) word ≡ (b && is_word (map (λ layer. layer.domain) layers) word)
    by rest true below =
        let lt : value < layer.domain = grind (arith, nat_tests) in
        rw (get_or-replicate {A = ℕ} layer.domain value 1 0 lt) rest
    by rest false past =
        let ge : layer.domain ≤ value = grind (arith, nat_tests) in
        rw (get_or_past {X = ℕ} (replicate layer.domain 1) value 0 (omega (arith, length-replicate {A = ℕ} layer.domain 1))) (empty_node layers h.1 word)

-- the row of a node
pub row_is : (below : ℕ) (layer : Layer) → IsLayer below layer → (node : ℕ) → node < length layer.table → IsRow layer.domain below (row_of layer node)
row_is below layer h node lt = h.rows node [] lt

-- a child of a node is a node of the layer below
pub child_within : (layer : Layer) (layers : List Layer) → IsLayered (layer ∷ layers) → (node value : ℕ) → node < length layer.table → get_or (row_of layer node) value 0 < node_count layers
child_within layer layers h node value lt = by (nat_lt value (length (row_of layer node))) refl
  where
    by : (b : Bool) → nat_lt value (length (row_of layer node)) ≡ b → get_or (row_of layer node) value 0 < node_count layers
    by true below = (row_is (node_count layers) layer h.0 node lt).within value 0 (grind (arith, nat_tests))
    by false past = rw (get_or_past (row_of layer node) value 0 (grind (arith, nat_tests))) (let n = two_nodes layers h.1 in omega arith)

-- what a node has are words over the domains
pub accepts_words : (layers : List Layer) → IsLayered layers → (node : ℕ) → node < node_count layers → (word : List ℕ) → accepts layers node word ≡ true → is_word (map (λ layer. layer.domain) layers) word ≡ true
accepts_words [] h node lt [] has = refl
accepts_words [] h node lt (value ∷ word) has = has
accepts_words (layer ∷ layers) h node lt [] has = has
accepts_words (layer ∷ layers) h node lt (value ∷ word) has = by (accepts_words layers h.1 (get_or (row_of layer node) value 0) (child_within layer layers h node value lt) word has) (nat_lt value layer.domain) refl
  where
    by : is_word (map (λ layer. layer.domain) layers) word ≡ true → (b : Bool) → nat_lt value layer.domain ≡ b → (b && is_word (map (λ layer. layer.domain) layers) word) ≡ true
    by rest true below = rest
    by rest false past =
        let ge : length (row_of layer node) ≤ value = (let w = (row_is (node_count layers) layer h.0 node lt).width in grind (arith, nat_tests)) in
        let none = rw (get_or_past (row_of layer node) value 0 ge) at has in
        absurd (true≢false (sym none ∙ empty_node layers h.1 word))

-- rows that differ stand at one place each
one_place : (rows : List (List ℕ)) (i j : ℕ) → IsDistinct (pointwise nat_eq) rows → i < length rows → j < length rows → get_or rows i [] ≡ get_or rows j [] → i ≡ j
unfolding IsDistinct
one_place [] i j d hi hj e = absurd (omega arith)
one_place (row ∷ rows) zero zero d hi hj e = refl
one_place (row ∷ rows) zero (suc j) d hi hj e =
    let apart : pointwise nat_eq row (get_or rows j []) ≡ false = All-from_recursion (λ y. pointwise nat_eq row y ≡ false) rows d.0 j [] (omega arith) in
    absurd (true≢false (sym ((bytes_eq-Decides row (get_or rows j [])).1 e) ∙ apart))
one_place (row ∷ rows) (suc i) zero d hi hj e =
    let apart : pointwise nat_eq row (get_or rows i []) ≡ false = All-from_recursion (λ y. pointwise nat_eq row y ≡ false) rows d.0 i [] (omega arith) in
    absurd (true≢false (sym ((bytes_eq-Decides row (get_or rows i [])).1 (sym e)) ∙ apart))
one_place (row ∷ rows) (suc i) (suc j) d hi hj e = ap suc (one_place rows i j d.1 (omega arith) (omega arith) e)

-- nodes of one layer with the same words are one node
pub same_words : (layers : List Layer) → IsLayered layers → (a b : ℕ) → a < node_count layers → b < node_count layers → ((word : List ℕ) → accepts layers a word ≡ accepts layers b word) → a ≡ b
same_words [] h a b la lb same = by a b la lb (same [])
  where
    by : (a b : ℕ) → a < 2 → b < 2 → (a == 1) ≡ (b == 1) → a ≡ b
    by a b la lb e = grind (arith, nat_tests)
same_words (layer ∷ layers) h a b la lb same =
    let ra = row_is (node_count layers) layer h.0 a la in
    let rb = row_is (node_count layers) layer h.0 b lb in
    one_place layer.table a b h.0.distinct la lb
    (ext_get_or 0 (row_of layer a) (row_of layer b) (ra.width ∙ sym rb.width) (λ value lt.
    same_words layers h.1 (get_or (row_of layer a) value 0) (get_or (row_of layer b) value 0)
    (child_within layer layers h a value la) (child_within layer layers h b value lb) (λ word. same (value ∷ word))))
