-- The sets of a store, by its layers.
use Rattle.std.proofs.Common.{◌≡◌, ℕ, zero, suc, ◌+◌, ◌<◌, ◌≤◌, nat_eq, Bool, true, false, List, [], ◌∷◌, map, length, get_or, drop, None, Some, Result, Ok, Err, IfOk, slice_get, refl, sym, ap, ◌∙◌, subst, arith, All, ◌↔◌, IsTrue, ◌&&◌, true≢false, inl, inr, ◌⊎◌}
use Rattle.std.proofs.lemmas.List.{length-map, get_or_past, get_or-map}
use Rattle.std.proofs.lemmas.Option.{get_or_from_slice_get, slice_get_cases}
use Rattle.std.proofs.lemmas.Bool.Decides.{nat_tests}
use Rattle.pc_base.proofs.DistinctLemmas.{both_true_parts}
use Rattle.pc_diagram.specs.Words.{is_word}
use Rattle.pc_diagram.specs.Rests.{size}
use Rattle.pc_base.specs.declared.memory.NoMemory.{NoMemory}
use Rattle.pc_store.specs.declared.id.Id.{Id}
use Rattle.pc_store.specs.declared.layer.Layer.{Layer}
use Rattle.pc_store.specs.Layered.{row_of, node_count, accepts, IsRow, IsLayer, IsLayered, IsStore, IsDomain, RowFits, HasRow, with_row_at}
use Rattle.pc_store.specs.Sets.{domains_of, layer_of, IsNamed, IsId, IsIdAt, has, has_in, leads, SameWords, Keeps}
use Rattle.pc_store.proofs.LayerLemmas.{two_nodes, empty_node, full_node, accepts_words, same_words, stands_within}
use Rattle.pc_store.proofs.GrowthLemmas.{Grows, grows_domains, grows_length, grows_count, grows_drop, grows_accepts, grows_with, store_with}

pub layered_drop : (count : ℕ) (layers : List Layer) → IsLayered layers → IsLayered (drop count layers)
layered_drop zero layers h = h
layered_drop (suc count) [] h = h
layered_drop (suc count) (layer ∷ layers) h = layered_drop count layers h.1

pub domains_drop : (count : ℕ) (layers : List Layer) → drop count (map (λ layer. layer.domain) layers) ≡ map (λ layer. layer.domain) (drop count layers)
domains_drop zero layers = refl
domains_drop (suc count) [] = refl
domains_drop (suc count) (layer ∷ layers) = domains_drop count layers

pub length-domains : (store : List Layer) → length (domains_of store) ≡ length store
unfolding domains_of
length-domains store = length-map store (λ layer. layer.domain)

-- a set of a layer has words over the domains from there on
named_words : (store : List Layer) → IsLayered store → (id : Id) → IsNamed store id → (word : List ℕ) → has store id word ≡ true → is_word (drop (layer_of id) (domains_of store)) word ≡ true
unfolding has IsNamed layer_of domains_of
named_words store h id is word there =
    ap (λ d. is_word d word) (domains_drop id.layer store) ∙ accepts_words (drop id.layer store) (layered_drop id.layer store h) id.node is.1 word there

same_id : (a b : Id) → a.layer ≡ b.layer → a.node ≡ b.node → a ≡ b
same_id a b l n = λ i. record { layer = l i; node = n i }

-- ids of one layer with the same words are one id
one_id : (store : List Layer) → IsLayered store → (a b : Id) → IsNamed store a → IsNamed store b → layer_of a ≡ layer_of b → SameWords store a b → a ≡ b
unfolding has IsNamed layer_of
one_id store h a b is_a is_b e same =
    let there : b.node < node_count (drop a.layer store) = subst (λ l. b.node < node_count (drop l store)) (sym e) is_b.1 in
    same_id a b e (same_words (drop a.layer store) (layered_drop a.layer store h) a.node b.node is_a.1 there
    (λ word. same word ∙ ap (λ l. accepts (drop l store) b.node word) (sym e)))

-- whatever names a node is an id
pub named_is_id : (store : List Layer) → IsLayered store → (id : Id) → IsNamed store id → IsId store id
unfolding IsId
named_is_id store h id named = record { named = named; over = named_words store h id named; once = λ other is e same. one_id store h other id is named e same }

-- the id of a node of a layer
pub node_is_id : (store : List Layer) → IsLayered store → (layer node : ℕ) → layer ≤ length (domains_of store) → node < node_count (drop layer store) → IsIdAt store layer (record { layer = layer; node = node })
unfolding IsNamed layer_of
node_is_id store h layer node inside lt = (named_is_id store h (record { layer = layer; node = node }) (omega (arith, length-domains store), lt), refl)

pub empty_is_id : (store : List Layer) (layer : ℕ) → IsLayered store → layer ≤ length (domains_of store) → IsIdAt store layer (record { layer = layer; node = 0 })
empty_is_id store layer h inside = let two = two_nodes (drop layer store) (layered_drop layer store h) in node_is_id store h layer 0 inside (omega arith)

pub empty_has : (store : List Layer) (layer : ℕ) → IsLayered store → (word : List ℕ) → has store (record { layer = layer; node = 0 }) word ≡ false
unfolding has
empty_has store layer h word = empty_node (drop layer store) (layered_drop layer store h) word

pub full_is_id : (store : List Layer) (layer : ℕ) → IsLayered store → layer ≤ length (domains_of store) → IsIdAt store layer (record { layer = layer; node = 1 })
full_is_id store layer h inside = node_is_id store h layer 1 inside (two_nodes (drop layer store) (layered_drop layer store h))

pub full_has : (store : List Layer) (layer : ℕ) → IsLayered store → (word : List ℕ) → has store (record { layer = layer; node = 1 }) word ≡ is_word (drop layer (domains_of store)) word
unfolding has domains_of
full_has store layer h word = full_node (drop layer store) (layered_drop layer store h) word ∙ ap (λ d. is_word d word) (sym (domains_drop layer store))

-- layers that grow keep sets
pub grows_keeps : (old new : List Layer) → Grows old new → IsLayered old → IsLayered new → Keeps old new
unfolding has IsId IsNamed domains_of
grows_keeps old new g h k = record {
  domains = grows_domains old new g;
  ids = λ id is. let more = grows_count (drop id.layer old) (drop id.layer new) (grows_drop id.layer old new g) in named_is_id new k id (omega (arith, grows_length old new g, is.named.0), omega (arith, is.named.1));
  sets = λ id is word. grows_accepts (drop id.layer old) (drop id.layer new) (grows_drop id.layer old new g) (layered_drop id.layer old h) id.node is.named.1 word;
}

pub keeps_same : (store : List Layer) → Keeps store store
keeps_same store = record { domains = refl; ids = λ id is. is; sets = λ id is word. refl }

-- one change after another
pub keeps_then : (first second third : List Layer) → Keeps first second → Keeps second third → Keeps first third
keeps_then first second third a b = record {
  domains = b.domains ∙ a.domains;
  ids = λ id is. b.ids id (a.ids id is);
  sets = λ id is word. b.sets id (a.ids id is) word ∙ a.sets id is word;
}

-- a layer at a place, over those below it
pub record StandsAt (layers : List Layer) (place : ℕ) (layer : Layer) : Type 0 where
  pub inside : place < length layers
  pub is_first : drop place layers ≡ layer ∷ drop (place + 1) layers
  pub domain : layer.domain ≡ get_or (map (λ l. l.domain) layers) place 0
  pub is_layer : IsLayer (node_count (drop (place + 1) layers)) layer

stands_deeper : (first : Layer) (layers : List Layer) (place : ℕ) (layer : Layer) → StandsAt layers place layer → StandsAt (first ∷ layers) (suc place) layer
stands_deeper first layers place layer h = record {
  inside = let i = h.inside in omega arith;
  is_first = subst (λ k. drop place layers ≡ layer ∷ drop k (first ∷ layers)) (one_more place) h.is_first;
  domain = h.domain;
  is_layer = subst (λ k. IsLayer (node_count (drop k (first ∷ layers))) layer) (one_more place) h.is_layer;
}
  where
    one_more : (n : ℕ) → suc (n + 1) ≡ suc n + 1
    one_more n = omega arith

pub stands_at : (layers : List Layer) (place : ℕ) (d : Layer) → IsLayered layers → place < length layers → StandsAt layers place (get_or layers place d)
stands_at [] place d h lt = absurd (omega arith)
stands_at (layer ∷ layers) zero d h lt = record { inside = lt; is_first = refl; domain = refl; is_layer = h.0 }
stands_at (layer ∷ layers) (suc place) d h lt = stands_deeper layer layers place (get_or layers place d) (stands_at layers place d h.1 (omega arith))

pub domain_at : (store : List Layer) (place : ℕ) (d : Layer) → place < length (domains_of store) → (get_or store place d).domain ≡ get_or (domains_of store) place 0
unfolding domains_of
domain_at store place d lt = sym (get_or-map (λ (layer : Layer). layer.domain) store place d 0 (omega (arith, length-map store (λ (layer : Layer). layer.domain))))

pub is_domain_at : (store : List Layer) (place : ℕ) (d : Layer) → IsLayered store → place < length (domains_of store) → IsDomain (get_or store place d).domain
is_domain_at store place d h lt =
    let s = stands_at store place d h (omega (arith, length-domains store)) in
    record { some_value = s.is_layer.some_value; few_values = s.is_layer.few_values }

-- an id before the last layer
pub record IsInner (store : List Layer) (id : Id) (layer : Layer) : Type 0 where
  pub stands : StandsAt store id.layer layer
  pub node : id.node < length layer.table
  pub row : IsRow layer.domain (node_count (drop (id.layer + 1) store)) (row_of layer id.node)

pub inner_id : (store : List Layer) → IsLayered store → (id : Id) (d : Layer) → IsId store id → layer_of id < length (domains_of store) → IsInner store id (get_or store id.layer d)
unfolding IsId IsNamed layer_of domains_of
inner_id store h id d is lt =
    let there : id.layer < length store = omega (arith, length-map store (λ layer. layer.domain)) in
    let s = stands_at store id.layer d h there in
    let count : id.node < length (get_or store id.layer d).table = subst (λ l. id.node < node_count l) s.is_first is.named.1 in
    record { stands = s; node = count; row = s.is_layer.rows id.node [] count }

pub inner_read : (store : List Layer) → IsLayered store → (id : Id) (layer : Layer) → layer ≡ get_or store id.layer layer → IsId store id → layer_of id < length (domains_of store) → IsInner store id layer
inner_read store h id layer read is lt = subst (IsInner store id) (sym read) (inner_id store h id layer is lt)

pub value_within : (store : List Layer) (id : Id) (layer : Layer) → IsInner store id layer → (value : ℕ) → value < get_or (domains_of store) (layer_of id) 0 → value < layer.domain
unfolding domains_of layer_of
value_within store id layer is value lt = let same = is.stands.domain in omega arith

pub layer_inside : (store : List Layer) (id : Id) → layer_of id < length (domains_of store) → id.layer < length store
unfolding layer_of
layer_inside store id lt = let same = length-domains store in omega arith

-- the id of a child, and its words
pub child_is_id : (store : List Layer) → IsLayered store → (id : Id) (layer : Layer) → IsInner store id layer → (value : ℕ) → value < layer.domain →
    IsIdAt store (layer_of id + 1) (record { layer = id.layer + 1; node = get_or (row_of layer id.node) value 0 })
unfolding IsNamed layer_of
child_is_id store h id layer is value lt =
    let inside = is.stands.inside in
    (named_is_id store h (record { layer = id.layer + 1; node = get_or (row_of layer id.node) value 0 }) (omega arith, is.row.within value 0 (omega (arith, is.row.width))), refl)

pub child_has : (store : List Layer) (id : Id) (layer : Layer) → IsInner store id layer → (value : ℕ) (word : List ℕ) →
    has store (record { layer = id.layer + 1; node = get_or (row_of layer id.node) value 0 }) word ≡ has store id (value ∷ word)
unfolding has
child_has store id layer is value word = ap (λ l. accepts l id.node (value ∷ word)) (sym is.stands.is_first)

-- a row of the nodes of children
pub row_fits : (layers : List Layer) (place : ℕ) (row : List ℕ) → place < length layers → length row ≡ get_or (map (λ l. l.domain) layers) place 0 → All (λ child. child < node_count (drop (place + 1) layers)) row → RowFits layers place row
row_fits [] place row lt width all = absurd (omega arith)
row_fits (layer ∷ layers) zero row lt width all = record { width = width; within = all }
row_fits (layer ∷ layers) (suc place) row lt width all =
    let one_more : suc place + 1 ≡ suc (place + 1) = omega arith in
    row_fits layers place row (omega arith) width (subst (λ k. All (λ child. child < node_count (drop k (layer ∷ layers))) row) one_more all)

pub children_fit : (store : List Layer) (place : ℕ) (children : List Id) → place < length (domains_of store) → length children ≡ get_or (domains_of store) place 0 → All (IsIdAt store (place + 1)) children →
    RowFits store place (map (λ child. child.node) children)
unfolding IsId IsNamed layer_of domains_of
children_fit store place children lt width all =
    row_fits store place (map (λ child. child.node) children) (omega (arith, length-map store (λ layer. layer.domain))) (length-map children (λ child. child.node) ∙ width)
    (λ k d below.
    let inside : k < length children = omega (arith, length-map children (λ child. child.node)) in
    let none : Id = record { layer = 0; node = d } in
    let child = all k none inside in
    let count : (get_or children k none).node < node_count (drop (place + 1) store) = subst (λ l. (get_or children k none).node < node_count (drop l store)) child.1 child.0.named.1 in
    subst (λ n. n < node_count (drop (place + 1) store)) (sym (get_or-map (λ (child : Id). child.node) children k none d inside)) count)

layer_is : (id : Id) (place : ℕ) → layer_of id ≡ place → id.layer ≡ place
unfolding layer_of
layer_is id place e = e

-- a node that has a row
pub row_stands : (layers : List Layer) (place node : ℕ) (row : List ℕ) → HasRow layers place node row →
    (node < node_count (drop place layers)) × ((value : ℕ) (word : List ℕ) → accepts (drop place layers) node (value ∷ word) ≡ accepts (drop (place + 1) layers) (get_or row value 0) word) × (accepts (drop place layers) node [] ≡ false)
row_stands [] place node row h = elim h [ ]
row_stands (layer ∷ layers) zero node row h =
    (stands_within layer.table node row h, λ value word. ap (λ r. accepts layers (get_or r value 0) word) (get_or_from_slice_get layer.table node row [] h), refl)
row_stands (layer ∷ layers) (suc place) node row h =
    let one_more : suc place + 1 ≡ suc (place + 1) = omega arith in
    let rest = row_stands layers place node row h in
    (rest.0, λ value word. rest.1 value word ∙ ap (λ k. accepts (drop k (layer ∷ layers)) (get_or row value 0) word) (sym one_more), rest.2)

-- the words of a node whose row has the nodes of the children
pub node_has : (old new : List Layer) (place node : ℕ) (children : List Id) → Keeps old new → IsLayered new → All (IsIdAt old (place + 1)) children → HasRow new place node (map (λ child. child.node) children) → (word : List ℕ) →
    has new (record { layer = place; node = node }) word ≡ leads old children word
unfolding has
node_has old new place node children keeps h all row [] = (row_stands new place node (map (λ child. child.node) children) row).2
node_has old new place node children keeps h all row (value ∷ word) =
    (row_stands new place node (map (λ child. child.node) children) row).1 value word ∙ by (slice_get_cases children value)
  where
    by : (slice_get children value ≡ slice_get children value) × (((child : Id) × (value < length children) × (slice_get children value ≡ Some child) × (get_or children value child ≡ child)) ⊎ ((length children ≤ value) × (slice_get children value ≡ None))) →
        accepts (drop (place + 1) new) (get_or (map (λ child. child.node) children) value 0) word ≡ has_in old (slice_get children value) word
    by cases = elim cases.1 [
      | inl found ↦
          let child = found.0 in
          let is = subst (IsIdAt old (place + 1)) found.3 (all value child found.1) in
          let node_is : get_or (map (λ c. c.node) children) value 0 ≡ child.node = get_or-map (λ (c : Id). c.node) children value child 0 found.1 ∙ ap (λ c. c.node) found.3 in
          ap (λ n. accepts (drop (place + 1) new) n word) node_is ∙ ap (λ k. accepts (drop k new) child.node word) (sym (layer_is child (place + 1) is.1)) ∙ keeps.sets child is.0 word ∙ ap (λ c. has_in old c word) (sym found.2)
      | inr past ↦
          ap (λ n. accepts (drop (place + 1) new) n word) (get_or_past (map (λ c. c.node) children) value 0 (omega (arith, past.0, length-map children (λ c. c.node)))) ∙ empty_node (drop (place + 1) new) (layered_drop (place + 1) new h) word
          ∙ ap (λ c. has_in old c word) (sym past.1)
    ]

-- any two ids of one layer with the same words are one
pub one_set : (store : List Layer) (a b : Id) → IsId store a → IsIdAt store (layer_of a) b → SameWords store a b → b ≡ a
unfolding IsId
one_set store a b is_a is_b same = is_a.once b is_b.0.named is_b.1 (λ word. sym (same word))

-- the words of a set of a layer are words over the variables from there on
pub words_are_over : (store : List Layer) (layer : ℕ) (id : Id) → IsIdAt store layer id → (word : List ℕ) → has store id word ≡ true → is_word (drop layer (domains_of store)) word ≡ true
unfolding IsId
words_are_over store layer id is word there = subst (λ l. is_word (drop l (domains_of store)) word ≡ true) is.1 (is.0.over word there)

-- what equality of two ids of one layer tells
pub same_when : (store : List Layer) (a b : Id) → IsId store a → IsIdAt store (layer_of a) b → (same : Bool) → same ≡ (nat_eq a.layer b.layer && nat_eq a.node b.node) → IsTrue same ↔ SameWords store a b
same_when store a b is_a is_b true e = (
  λ _ word.
      let parts = both_true_parts (nat_eq a.layer b.layer) (nat_eq a.node b.node) (sym e) in
      let l : a.layer ≡ b.layer = grind (arith, nat_tests) in
      let n : a.node ≡ b.node = grind (arith, nat_tests) in
      ap (λ id. has store id word) (same_id a b l n),
  λ _. refl,
)
same_when store a b is_a is_b false e = (
  λ no. absurd (true≢false (sym no)),
  λ same.
      let one = one_set store a b is_a is_b same in
      absurd (true≢false (sym (ap (λ (id : Id). nat_eq a.layer id.layer && nat_eq a.node id.node) one ∙ both (nat_eq-same a.layer) (nat_eq-same a.node)) ∙ sym e)),
)
  where
    both : {x y : Bool} → x ≡ true → y ≡ true → (x && y) ≡ true
    both p q = λ i. p i && q i

    nat_eq-same : (n : ℕ) → nat_eq n n ≡ true
    nat_eq-same n = grind (arith, nat_tests)

-- what a store that got a node is
pub record NodeMade (old new : List Layer) (place node : ℕ) (children : List Id) : Type 0 where
  pub store : IsStore new
  pub keeps : Keeps old new
  pub is_id : IsIdAt new place (record { layer = place; node = node })
  pub words : (word : List ℕ) → has new (record { layer = place; node = node }) word ≡ leads old children word
  pub only : (other : Id) → IsIdAt new place other → SameWords new other (record { layer = place; node = node }) → other ≡ record { layer = place; node = node }

pub node_made : (old new : List Layer) (place node : ℕ) (children : List Id) → IsStore old → place < length (domains_of old) → length children ≡ get_or (domains_of old) place 0 → All (IsIdAt old (place + 1)) children →
    new ≡ with_row_at old place (map (λ child. child.node) children) → HasRow new place node (map (λ child. child.node) children) → NodeMade old new place node children
node_made old new place node children h lt width all grows row = record {
  store = store;
  keeps = keeps;
  is_id = is_id;
  words = node_has old new place node children keeps store.layered all row;
  only = λ other is same. one_set new (record { layer = place; node = node }) other is_id.0 (is.0, is.1 ∙ sym is_id.1) (λ word. sym (same word));
}
  where
    nodes : List ℕ
    nodes = map (λ child. child.node) children

    store : IsStore new
    store = subst IsStore (sym grows) (store_with old place nodes h (children_fit old place children lt width all))

    keeps : Keeps old new
    keeps = grows_keeps old new (subst (Grows old) (sym grows) (grows_with old place nodes)) h.layered store.layered

    is_id : IsIdAt new place (record { layer = place; node = node })
    is_id = node_is_id new store.layered place node (let same = ap length keeps.domains in omega arith) (row_stands new place node nodes row).0

-- the layers of an id, and its node there
pub id_inside : (store : List Layer) (id : Id) → IsId store id → id.layer ≤ length store
unfolding IsId IsNamed
id_inside store id is = is.named.0

pub id_node : (store : List Layer) (id : Id) → IsId store id → id.node < node_count (drop id.layer store)
unfolding IsId IsNamed
id_node store id is = is.named.1

-- the size of a node's set is that of the id
pub size_is : (store : List Layer) (id : Id) (layers : List Layer) → layers ≡ drop id.layer store → (n : Result ℕ NoMemory) → IfOk n (λ m. m ≡ size (map (λ layer. layer.domain) layers) (accepts layers id.node)) → IfOk n (λ m. m ≡ size (drop (layer_of id) (domains_of store)) (has store id))
unfolding domains_of has layer_of
size_is store id layers are (Err e) h = tt
size_is store id layers are (Ok m) h = h ∙ (λ i. size (map (λ layer. layer.domain) (are i)) (accepts (are i) id.node)) ∙ ap (λ d. size d (accepts (drop id.layer store) id.node)) (sym (domains_drop id.layer store))

-- the same where it is compared with a number
pub size_within : (store : List Layer) (id : Id) (layers : List Layer) → layers ≡ drop id.layer store → (most : ℕ) (r : Result Bool NoMemory) → IfOk r (λ within. IsTrue within ↔ (size (map (λ layer. layer.domain) layers) (accepts layers id.node) ≤ most)) →
    IfOk r (λ within. IsTrue within ↔ (size (drop (layer_of id) (domains_of store)) (has store id) ≤ most))
unfolding domains_of has layer_of
size_within store id layers are most (Err e) h = tt
size_within store id layers are most (Ok within) h =
    subst (λ (n : ℕ). IsTrue within ↔ (n ≤ most)) ((λ i. size (map (λ layer. layer.domain) (are i)) (accepts (are i) id.node)) ∙ ap (λ d. size d (accepts (drop id.layer store) id.node)) (sym (domains_drop id.layer store))) h
