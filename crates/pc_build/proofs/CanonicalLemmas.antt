-- A layer of the diagram of a set is canonical.
use Rattle.std.proofs.Common.{◌≡◌, ◌≢◌, ℕ, ◌+◌, ◌*◌, ◌<◌, ◌==◌, nat_lt, nat_le, Bool, true, false, ◌&&◌, List, [], ◌∷◌, length, drop, get_or, slice_get, is_some, Option, Some, None, refl, sym, ap, ◌∙◌, subst, arith, true≢false, drop-cons, add-one}
use Rattle.std.specs.List.{list_any}
use Rattle.std.proofs.lemmas.Bool.{both_ways, ltb-true, ltb-false}
use Rattle.std.proofs.lemmas.Bool.Decides.{nat_tests}
use Rattle.std.proofs.lemmas.List.{get_or_past}
use Rattle.std.proofs.lemmas.Option.{slice_get-get_or, slice_get_within, same_Some}
use Rattle.pc_diagram.specs.Diagram.{IsShapedLevel, IsCanonicalLevel}
use Rattle.pc_diagram.specs.DiagramFaults.{is_outside}
use Rattle.pc_diagram.specs.Fitting.{is_number}
use Rattle.pc_diagram.specs.Levels.{Level, row, as_level}
use Rattle.pc_diagram.specs.Words.{is_word}
use Rattle.pc_diagram.proofs.AnyLemmas.{among_range, one_at, passes_at}
use Rattle.pc_diagram.proofs.ShapeLemmas.{both}
use Rattle.pc_diagram.proofs.TurnLemmas.{met-any}
use Rattle.pc_diagram.proofs.UniqueLemmas.{edge-is}
use Rattle.pc_store.specs.declared.id.Node.{Node}
use Rattle.pc_store.specs.declared.store.Store.{Store}
use Rattle.pc_store.specs.Layered.{IsDomain}
use Rattle.pc_store.specs.Sets.{domains_of, id_at, IsNodeAt, has}
use Rattle.pc_store.proofs.SetLemmas.{one_set}
use Rattle.pc_build.specs.Extracts.{IsEmpty, Extracts}
use Rattle.pc_build.proofs.ExtractLemmas.{AreOver, node_over, not_word, some_word, EdgeAt, edges_width, edge_at, target_reached}

-- nodes of a layer, none empty and none twice
pub record AreKept (store : Store) (layer : ℕ) (nodes : List Node) : Type 0 where
  pub at_layer : (p : ℕ) (node : Node) → slice_get nodes p ≡ Some node → IsNodeAt store layer node
  pub filled : (p : ℕ) (node : Node) → slice_get nodes p ≡ Some node → IsEmpty store layer node → ⊥
  pub once : (i j : ℕ) (node : Node) → slice_get nodes i ≡ Some node → slice_get nodes j ≡ Some node → i ≡ j

-- an edge stands in its row
stands_inside : (edges : List (Option ℕ)) (i q : ℕ) → get_or edges i None ≡ Some q → i < length edges
stands_inside edges i q read = by (nat_lt i (length edges)) refl
  where
    by : (b : Bool) → nat_lt i (length edges) ≡ b → i < length edges
    by true e = ltb-true i (length edges) e
    by false e = let none : None ≡ Some q = sym (get_or_past edges i None (ltb-false i (length edges) e)) ∙ read in absurd cc

pub node_is : (layer : ℕ) (a b : Node) → id_at layer a ≡ id_at layer b → a ≡ b
unfolding id_at
node_is layer a b e = λ i. record { number = (e i).node }

pub domains_split : (store : Store) (layer : ℕ) → layer < length (domains_of store) → drop layer (domains_of store) ≡ get_or (domains_of store) layer 0 ∷ drop (layer + 1) (domains_of store)
domains_split store layer inner = drop-cons (domains_of store) layer 0 inner ∙ ap (λ k. get_or (domains_of store) layer 0 ∷ drop k (domains_of store)) (sym (add-one layer))

-- nodes with the same edge for a value have the same words that begin with it
same_after : (store : Store) (layer : ℕ) (a b : Node) (value : ℕ) (next : List Node) (edge : Option ℕ) → EdgeAt store layer a value next edge → EdgeAt store layer b value next edge → (word : List ℕ) → has store (id_at layer a) (value ∷ word) ≡ has store (id_at layer b) (value ∷ word)
same_after store layer a b value next None left right word = sym (left.words word) ∙ left.is_edge word ∙ sym (right.is_edge word) ∙ right.words word
same_after store layer a b value next (Some q) left right word =
    let same : left.child ≡ right.child = same_Some left.child right.child (sym left.is_edge.1 ∙ right.is_edge.1) in
    sym (left.words word) ∙ ap (λ (c : Node). has store (id_at (layer + 1) c) word) same ∙ right.words word

module _ (store : Store) (over : AreOver store) (layer : ℕ) (inner : layer < length (domains_of store)) (nodes next : List Node) (edges : List (Option ℕ)) (e : Extracts store layer nodes next edges) (kept : AreKept store layer nodes) where
  abbrev domain : ℕ
  domain = get_or (domains_of store) layer 0

  abbrev l : Level
  l = as_level domain (length nodes) (length next) edges

  any_node : Node
  any_node = record { number = 0 }

  -- a word of a node begins with a value
  begins : (value : ℕ) (word : List ℕ) → is_word (drop layer (domains_of store)) (value ∷ word) ≡ true → value < domain
  begins value word is = ltb-true value domain (both (nat_lt value domain) (is_word (drop (layer + 1) (domains_of store)) word) (ap (λ ds. is_word ds (value ∷ word)) (sym (domains_split store layer inner)) ∙ is)).0

  -- each node has an edge
  first_edge : (p : ℕ) (node : Node) → slice_get nodes p ≡ Some node → (value : ℕ) × (value < domain) × (q : ℕ) × (get_or edges (p * domain + value) None ≡ Some q) × (q < length next)
  first_edge p node at = by one.0 one.1
    where
      one : (word : List ℕ) × (has store (id_at layer node) word ≡ true)
      one = some_word store over layer node (kept.at_layer p node at) (kept.filled p node at)

      leads : (value : ℕ) (word : List ℕ) → has store (id_at layer node) (value ∷ word) ≡ true → (x : Option ℕ) → EdgeAt store layer node value next x → (q : ℕ) × (x ≡ Some q) × (q < length next)
      leads value word there None is = absurd (both_ways (has store (id_at layer node) (value ∷ word)) (sym (is.words word) ∙ is.is_edge word) there)
      leads value word there (Some q) is = (q, refl, slice_get_within next q is.child is.is_edge.1)

      by : (word : List ℕ) → has store (id_at layer node) word ≡ true → (value : ℕ) × (value < domain) × (q : ℕ) × (get_or edges (p * domain + value) None ≡ Some q) × (q < length next)
      by [] there = absurd (true≢false (sym (node_over store over layer node (kept.at_layer p node at) [] there) ∙ ap (λ ds. is_word ds []) (domains_split store layer inner)))
      by (value ∷ word) there =
          let lt = begins value word (node_over store over layer node (kept.at_layer p node at) (value ∷ word) there) in
          let target = leads value word there (get_or edges (p * domain + value) None) (edge_at store layer nodes next edges e p value node at lt) in
          (value, lt, target.0, target.1, target.2)

  live : (p : ℕ) → p < length nodes → list_any is_some (row l p) ≡ true
  live p lt =
      let at = first_edge p (get_or nodes p any_node) (slice_get-get_or nodes p any_node lt) in
      let read : get_or (row l p) at.0 None ≡ Some at.2 = edge-is l p at.0 at.1 ∙ at.3 in
      passes_at is_some (row l p) at.0 None (stands_inside (row l p) at.0 at.2 read) (ap is_some read)

  pub some_next : 0 < length nodes → 0 < length next
  some_next lt = let at = first_edge 0 (get_or nodes 0 any_node) (slice_get-get_or nodes 0 any_node lt) in omega (arith, at.4)

  layered : list_any (is_outside (length next)) edges ≡ false
  layered = by (list_any (is_outside (length next)) edges) refl
    where
      inside : (i : ℕ) → i < length edges → (x : Option ℕ) → get_or edges i None ≡ x → is_outside (length next) x ≡ true → ⊥
      inside i lt None read out = absurd cc
      inside i lt (Some q) read out =
          let same : (q == q) ≡ true = grind (arith, nat_tests) in
          let there : list_any (λ target. is_number target q) edges ≡ true = passes_at (λ target. is_number target q) edges i None lt (ap (λ x. is_number x q) read ∙ same) in
          let among : (nat_le 0 q && nat_lt q (0 + length next)) ≡ true = sym (among_range q 0 (length next)) ∙ ap (list_any (λ x. x == q)) (sym e.are_edges.ordered) ∙ met-any edges q ∙ there in
          let small : q < 0 + length next = ltb-true q (0 + length next) (both (nat_le 0 q) (nat_lt q (0 + length next)) among).1 in
          absurd (grind (arith, nat_tests))

      by : (b : Bool) → list_any (is_outside (length next)) edges ≡ b → list_any (is_outside (length next)) edges ≡ false
      by true f = let at = one_at (is_outside (length next)) edges None f in absurd (inside at.0 at.1 (get_or edges at.0 None) refl at.2)
      by false f = f

  no_more : (node : Node) → IsNodeAt store layer node → (word : List ℕ) → is_word (domain ∷ drop (layer + 1) (domains_of store)) word ≡ false → has store (id_at layer node) word ≡ false
  no_more node is word isnt = not_word store over layer node is word (ap (λ ds. is_word ds word) (domains_split store layer inner) ∙ isnt)

  same_words : (a b : ℕ) (left right : Node) → slice_get nodes a ≡ Some left → slice_get nodes b ≡ Some right → row l a ≡ row l b → (word : List ℕ) → has store (id_at layer left) word ≡ has store (id_at layer right) word
  same_words a b left right at_a at_b same [] = no_more left (kept.at_layer a left at_a) [] refl ∙ sym (no_more right (kept.at_layer b right at_b) [] refl)
  same_words a b left right at_a at_b same (value ∷ word) = by (nat_lt value domain) refl
    where
      by : (t : Bool) → nat_lt value domain ≡ t → has store (id_at layer left) (value ∷ word) ≡ has store (id_at layer right) (value ∷ word)
      by true f =
          let lt = ltb-true value domain f in
          let one : get_or edges (a * domain + value) None ≡ get_or edges (b * domain + value) None = sym (edge-is l a value lt) ∙ ap (λ r. get_or r value None) same ∙ edge-is l b value lt in
          same_after store layer left right value next (get_or edges (b * domain + value) None)
          (subst (EdgeAt store layer left value next) one (edge_at store layer nodes next edges e a value left at_a lt)) (edge_at store layer nodes next edges e b value right at_b lt) word
      by false f =
          let isnt : is_word (domain ∷ drop (layer + 1) (domains_of store)) (value ∷ word) ≡ false = ap (λ t. t && is_word (drop (layer + 1) (domains_of store)) word) f in
          no_more left (kept.at_layer a left at_a) (value ∷ word) isnt ∙ sym (no_more right (kept.at_layer b right at_b) (value ∷ word) isnt)

  reduced : (a b : ℕ) → a < b → b < length nodes → row l a ≢ row l b
  reduced a b before lt same =
      let left = get_or nodes a any_node in
      let right = get_or nodes b any_node in
      let at_a : slice_get nodes a ≡ Some left = slice_get-get_or nodes a any_node (omega arith) in
      let at_b : slice_get nodes b ≡ Some right = slice_get-get_or nodes b any_node lt in
      let is_a = kept.at_layer a left at_a in
      let is_b = kept.at_layer b right at_b in
      let one : id_at layer left ≡ id_at layer right = sym (one_set store (id_at layer left) (id_at layer right) is_a.0 (is_b.0, is_b.1 ∙ sym is_a.1) (same_words a b left right at_a at_b same)) in
      let place : a ≡ b = kept.once a b right (at_a ∙ ap Some (node_is layer left right one)) at_b in
      absurd (omega arith)

  pub layer_canonical : IsCanonicalLevel l
  layer_canonical = record { layered = layered; live = live; reached = target_reached store layer nodes next edges e; reduced = reduced; ordered = e.are_edges.ordered }

  pub layer_shaped : IsDomain domain → 0 < length nodes → IsShapedLevel l
  layer_shaped is some = record { some_values = is.some_value; few_values = is.few_values; some_nodes = some; nodes_follow = some_next some; width = edges_width store layer nodes next edges e }
