-- The tables of the diagram of a set.
use Rattle.std.proofs.Common.{◌≡◌, ℕ, zero, suc, ◌+◌, ◌-◌, ◌*◌, ◌<◌, ◌≤◌, nat_lt, Bool, true, false, ◌&&◌, List, [], ◌∷◌, ◌++◌, map, length, take, drop, get_or, slice_get, sum, Option, Some, None, All, refl, sym, ap, ◌∙◌, subst, arith}
use Rattle.std.proofs.lemmas.Bool.{both_ways, ltb-true, ltb-false}
use Rattle.std.proofs.lemmas.List.{ext_get_or, get_or-map, get_or_append_left, get_or_push, length_push, length-map, map-append, take-append-drop, drop_all, take-map, drop-map}
use Rattle.std.proofs.lemmas.List.FromFn.{fill_by_all}
use Rattle.std.proofs.lemmas.Option.{slice_get-get_or, same_Some}
use Rattle.pc_diagram.specs.declared.limits.TheConstants.{MOST_NODES}
use Rattle.pc_diagram.specs.declared.raw_diagram.RawDiagram.{RawDiagram}
use Rattle.pc_diagram.specs.Diagram.{IsShapedLevel, IsCanonicalLevel, IsCanonical}
use Rattle.pc_diagram.specs.Levels.{Level, level, levels, edge, as_level}
use Rattle.pc_diagram.specs.Paths.{accepts, has_word}
use Rattle.pc_diagram.specs.Rests.{rest_count, size}
use Rattle.pc_diagram.specs.Words.{is_word}
use Rattle.pc_diagram.proofs.CountLemmas.{Leads, nodes_counted}
use Rattle.pc_diagram.proofs.EqualWords.{domains-levels, accepts-is_word}
use Rattle.pc_diagram.proofs.LevelLemmas.{drop-levels, drop-levels-end}
use Rattle.pc_diagram.proofs.ShapeLemmas.{both}
use Rattle.pc_diagram.proofs.UniqueLemmas.{IsChain, accepts_none, edge-is}
use Rattle.pc_store.specs.declared.id.Id.{Id}
use Rattle.pc_store.specs.declared.id.Node.{Node}
use Rattle.pc_store.specs.declared.store.Store.{Store}
use Rattle.pc_store.specs.Layered.{IsDomain}
use Rattle.pc_store.specs.Sets.{domains_of, id_at, IsIdAt, IsNodeAt, has}
use Rattle.pc_store.proofs.SetLemmas.{one_set}
use Rattle.pc_build.specs.Extracts.{IsEmpty, Extracts}
use Rattle.pc_build.proofs.ExtractLemmas.{AreOver, not_word, some_word, EdgeAt, edge_at, next_at}
use Rattle.pc_build.proofs.CanonicalLemmas.{AreKept, node_is, domains_split, some_next, layer_canonical, layer_shaped}

-- the tables of the first layers, with the lists of nodes that they stand for
pub record Extracted (store : Store) (set : Id) (count : ℕ) (nodes : List Node) (raw : RawDiagram) : Type 0 where
  pub root : Node
  pub root_is : set ≡ id_at 0 root
  pub lists : List (List Node)
  pub lists_count : length lists ≡ count + 1
  pub first : get_or lists 0 [] ≡ root ∷ []
  pub last : get_or lists count [] ≡ nodes
  pub domains_count : length raw.domains ≡ count
  pub domains_are : (v : ℕ) → v < count → (get_or raw.domains v 0 ≡ get_or (domains_of store) v 0) × IsDomain (get_or (domains_of store) v 0)
  pub sizes_are : raw.sizes ≡ map length lists
  pub edges_count : length raw.edges ≡ count
  pub layers : (v : ℕ) → v < count → Extracts store v (get_or lists v []) (get_or lists (v + 1) []) (get_or raw.edges v [])

pub extracted_root : (store : Store) (set : Id) (root : Node) (raw : RawDiagram) → set ≡ id_at 0 root → raw.domains ≡ [] → raw.sizes ≡ 1 ∷ [] → raw.edges ≡ [] → Extracted store set 0 (root ∷ []) raw
extracted_root store set root raw is domains sizes edges = record {
  root = root;
  root_is = is;
  lists = (root ∷ []) ∷ [];
  lists_count = refl;
  first = refl;
  last = refl;
  domains_count = ap length domains;
  domains_are = λ v lt. absurd (omega arith);
  sizes_are = sizes;
  edges_count = ap length edges;
  layers = λ v lt. absurd (omega arith);
}

-- before the last place, or there
below_or_last : {P : ℕ → Type 0} (count : ℕ) → ((v : ℕ) → v < count → P v) → P count → (v : ℕ) → v < count + 1 → P v
below_or_last {P} count before last v lt = by (nat_lt v count) refl
  where
    by : (b : Bool) → nat_lt v count ≡ b → P v
    by true e = before v (ltb-true v count e)
    by false e = let same : count ≡ v = (let ge = ltb-false v count e in omega arith) in subst P same last

pub extracted_more : (store : Store) (set : Id) (count : ℕ) (nodes next : List Node) (domain size : ℕ) (edges : List (Option ℕ)) (raw more : RawDiagram) →
    more.domains ≡ raw.domains ++ domain ∷ [] → more.sizes ≡ raw.sizes ++ size ∷ [] → more.edges ≡ raw.edges ++ edges ∷ [] → domain ≡ get_or (domains_of store) count 0 → IsDomain domain → size ≡ length next → Extracts store count nodes next edges →
    Extracted store set count nodes raw → Extracted store set (count + 1) next more
extracted_more store set count nodes next domain size edges raw more domains_is sizes_is edges_is domain_is is_domain size_is e h = record {
  root = h.root;
  root_is = h.root_is;
  lists = lists;
  lists_count = length_push h.lists next ∙ ap (λ n. n + 1) h.lists_count;
  first = list_before 0 (omega arith) ∙ h.first;
  last = get_or_push h.lists next [] (count + 1) h.lists_count;
  domains_count = ap length domains_is ∙ length_push raw.domains domain ∙ ap (λ n. n + 1) h.domains_count;
  domains_are = below_or_last {P = λ v. (get_or more.domains v 0 ≡ get_or (domains_of store) v 0) × IsDomain (get_or (domains_of store) v 0)} count
      (λ v lt. (ap (λ l. get_or l v 0) domains_is ∙ get_or_append_left raw.domains (domain ∷ []) 0 v (let n = h.domains_count in omega arith) ∙ (h.domains_are v lt).0, (h.domains_are v lt).1))
      (ap (λ l. get_or l count 0) domains_is ∙ get_or_push raw.domains domain 0 count h.domains_count ∙ domain_is, subst IsDomain domain_is is_domain);
  sizes_are = sizes_is ∙ (λ i. h.sizes_are i ++ size_is i ∷ []) ∙ sym (map-append length h.lists (next ∷ []));
  edges_count = ap length edges_is ∙ length_push raw.edges edges ∙ ap (λ n. n + 1) h.edges_count;
  layers = below_or_last {P = λ v. Extracts store v (get_or lists v []) (get_or lists (v + 1) []) (get_or more.edges v [])} count
      (λ v lt. moved v (get_or h.lists v []) (get_or h.lists (v + 1) []) (get_or raw.edges v []) (list_before v (omega arith)) (list_before (v + 1) (omega arith))
      (ap (λ l. get_or l v []) edges_is ∙ get_or_append_left raw.edges (edges ∷ []) [] v (let n = h.edges_count in omega arith)) (h.layers v lt))
      (moved count nodes next edges (list_before count (omega arith) ∙ h.last) (get_or_push h.lists next [] (count + 1) h.lists_count) (ap (λ l. get_or l count []) edges_is ∙ get_or_push raw.edges edges [] count h.edges_count) e);
}
  where
    lists : List (List Node)
    lists = h.lists ++ next ∷ []

    list_before : (v : ℕ) → v < count + 1 → get_or lists v [] ≡ get_or h.lists v []
    list_before v lt = get_or_append_left h.lists (next ∷ []) [] v (let n = h.lists_count in omega arith)

    moved : (v : ℕ) (a b : List Node) (t : List (Option ℕ)) → get_or lists v [] ≡ a → get_or lists (v + 1) [] ≡ b → get_or more.edges v [] ≡ t → Extracts store v a b t → Extracts store v (get_or lists v []) (get_or lists (v + 1) []) (get_or more.edges v [])
    moved v a b t ea eb et x =
        subst (λ l. Extracts store v l (get_or lists (v + 1) []) (get_or more.edges v [])) (sym ea) (subst (λ l. Extracts store v a l (get_or more.edges v [])) (sym eb) (subst (Extracts store v a b) (sym et) x))

-- the nodes of a next layer are kept
kept_next : (store : Store) (layer : ℕ) (nodes next : List Node) (edges : List (Option ℕ)) → Extracts store layer nodes next edges → AreKept store (layer + 1) next
kept_next store layer nodes next edges e = record {
  at_layer = λ p node at. (next_at store layer nodes next edges e p node at).0;
  filled = λ p node at. (next_at store layer nodes next edges e p node at).1;
  once = e.are_edges.once;
}

-- one node alone
kept_one : (store : Store) (root : Node) → IsNodeAt store 0 root → (IsEmpty store 0 root → ⊥) → AreKept store 0 (root ∷ [])
kept_one store root is some = record {
  at_layer = λ p node at. subst (IsNodeAt store 0) (only p node at).1 is;
  filled = λ p node at. subst (λ n. IsEmpty store 0 n → ⊥) (only p node at).1 some;
  once = λ i j node a b. (only i node a).0 ∙ sym (only j node b).0;
}
  where
    only : (p : ℕ) (node : Node) → slice_get (root ∷ []) p ≡ Some node → (p ≡ 0) × (root ≡ node)
    only zero node at = (refl, same_Some root node at)
    only (suc p) node at = absurd cc

-- the nodes of a layer
pub nodes_kept : (store : Store) (set : Id) (count : ℕ) (nodes : List Node) (raw : RawDiagram) → IsIdAt store 0 set → ((word : List ℕ) × (has store set word ≡ true)) → (h : Extracted store set count nodes raw) → (v : ℕ) → v ≤ count → AreKept store v (get_or h.lists v [])
nodes_kept store set count nodes raw is some h zero le =
    subst (AreKept store 0) (sym h.first)
    (kept_one store h.root (subst (IsIdAt store 0) h.root_is is) (λ none. both_ways (has store set some.0) (ap (λ s. has store s some.0) h.root_is ∙ none some.0) some.1))
nodes_kept store set count nodes raw is some h (suc v) le =
    let next : v + 1 ≡ suc v = omega arith in
    subst (λ k. AreKept store k (get_or h.lists k [])) next (kept_next store v (get_or h.lists v []) (get_or h.lists (v + 1) []) (get_or raw.edges v []) (h.layers v (omega arith)))

-- the nodes before a layer are nodes of it
pub nodes_at : (store : Store) (set : Id) (count : ℕ) (nodes : List Node) (raw : RawDiagram) → IsIdAt store 0 set → ((word : List ℕ) × (has store set word ≡ true)) → Extracted store set count nodes raw → All (IsNodeAt store count) nodes
nodes_at store set count nodes raw is some h i d lt =
    let kept = subst (AreKept store count) h.last (nodes_kept store set count nodes raw is some h count (omega arith)) in
    kept.at_layer i (get_or nodes i d) (slice_get-get_or nodes i d lt)

module _ (store : Store) (over : AreOver store) (set : Id) (is : IsIdAt store 0 set) (some : (word : List ℕ) × (has store set word ≡ true)) (nodes : List Node) (raw : RawDiagram) (h : Extracted store set (length (domains_of store)) nodes raw) where
  abbrev count : ℕ
  count = length (domains_of store)

  abbrev list : ℕ → List Node
  list v = get_or h.lists v []

  abbrev table : ℕ → List (Option ℕ)
  table v = get_or raw.edges v []

  kept : (v : ℕ) → v ≤ count → AreKept store v (list v)
  kept v le = nodes_kept store set count nodes raw is some h v le

  filled : (v : ℕ) → v ≤ count → 0 < length (list v)
  filled zero le = let one = ap length h.first in omega arith
  filled (suc v) le =
      let next : v + 1 ≡ suc v = omega arith in
      let inner : v < count = omega arith in
      subst (λ k. 0 < length (list k)) next (some_next store over v inner (list v) (list (v + 1)) (table v) (h.layers v inner) (kept v (omega arith)) (filled v (omega arith)))

  size_at : (v : ℕ) → v ≤ count → get_or raw.sizes v 0 ≡ length (list v)
  size_at v le = ap (λ l. get_or l v 0) h.sizes_are ∙ get_or-map length h.lists v [] 0 (let n = h.lists_count in omega arith)

  abbrev layer_level : ℕ → Level
  layer_level v = as_level (get_or (domains_of store) v 0) (length (list v)) (length (list (v + 1))) (table v)

  level_is : (v : ℕ) → v < count → layer_level v ≡ level raw v
  level_is v lt =
      let d = sym (h.domains_are v lt).0 in
      let s = sym (size_at v (omega arith)) in
      let n = sym (size_at (v + 1) (omega arith)) in
      λ i. record { domain = d i; size = s i; next = n i; table = table v }

  shaped : (v : ℕ) → v < count → IsShapedLevel (level raw v)
  shaped v lt =
      subst IsShapedLevel (level_is v lt)
      (layer_shaped store over v lt (list v) (list (v + 1)) (table v) (h.layers v lt) (kept v (omega arith)) (h.domains_are v lt).1 (filled v (omega arith)))

  canonical : (v : ℕ) → v < count → IsCanonicalLevel (level raw v)
  canonical v lt =
      subst IsCanonicalLevel (level_is v lt) (layer_canonical store over v lt (list v) (list (v + 1)) (table v) (h.layers v lt) (kept v (omega arith)))

  pub domains_same : raw.domains ≡ domains_of store
  domains_same = ext_get_or 0 raw.domains (domains_of store) h.domains_count (λ v lt. (h.domains_are v (let n = h.domains_count in omega arith)).0)

  -- past the last variable a node has the empty word alone
  no_more : (node : Node) → IsNodeAt store count node → (value : ℕ) (word : List ℕ) → has store (id_at count node) (value ∷ word) ≡ false
  no_more node at value word = not_word store over count node at (value ∷ word) (ap (λ ds. is_word ds (value ∷ word)) (drop_all count (domains_of store) (omega arith)))

  empty_word : (node : Node) → IsNodeAt store count node → (IsEmpty store count node → ⊥) → has store (id_at count node) [] ≡ true
  empty_word node at fill = by one.0 one.1
    where
      one : (word : List ℕ) × (has store (id_at count node) word ≡ true)
      one = some_word store over count node at fill

      by : (word : List ℕ) → has store (id_at count node) word ≡ true → has store (id_at count node) [] ≡ true
      by [] there = there
      by (value ∷ word) there = absurd (both_ways (has store (id_at count node) (value ∷ word)) (no_more node at value word) there)

  -- what leads from a node to the end are its words
  words_end : (p : ℕ) (node : Node) → IsNodeAt store count node → (IsEmpty store count node → ⊥) → (word : List ℕ) → accepts [] (Some p) word ≡ has store (id_at count node) word
  words_end p node at fill [] = sym (empty_word node at fill)
  words_end p node at fill (value ∷ word) = sym (no_more node at value word)

  -- by what an edge leads to
  words_after : (v p value : ℕ) (node : Node) (word : List ℕ) (ls : List Level) (x : Option ℕ) → EdgeAt store v node value (list (v + 1)) x →
      ((q : ℕ) (child : Node) → slice_get (list (v + 1)) q ≡ Some child → accepts ls (Some q) word ≡ has store (id_at (v + 1) child) word) → accepts ls x word ≡ has store (id_at v node) (value ∷ word)
  words_after v p value node word ls None at later = accepts_none ls word ∙ sym (at.is_edge word) ∙ at.words word
  words_after v p value node word ls (Some q) at later = later q at.child at.is_edge.1 ∙ at.words word

  words_from : (k v : ℕ) → v + k ≡ count → (p : ℕ) (node : Node) → slice_get (list v) p ≡ Some node → (word : List ℕ) → accepts (drop v (levels raw)) (Some p) word ≡ has store (id_at v node) word
  words_from zero v e p node at word =
      let end : count ≡ v = omega arith in
      let here = kept v (omega arith) in
      ap (λ ls. accepts ls (Some p) word) (drop-levels-end raw v (let n = h.domains_count in omega arith))
      ∙ subst (λ c. IsNodeAt store c node → (IsEmpty store c node → ⊥) → accepts [] (Some p) word ≡ has store (id_at c node) word) end (λ a b. words_end p node a b word) (here.at_layer p node at) (here.filled p node at)
  words_from (suc k) v e p node at word = ap (λ ls. accepts ls (Some p) word) (drop-levels raw v (let n = h.domains_count in omega arith)) ∙ by word (words_from k (v + 1) (omega arith))
    where
      lt : v < count
      lt = omega arith

      is_node : IsNodeAt store v node
      is_node = (kept v (omega arith)).at_layer p node at

      domain : ℕ
      domain = get_or (domains_of store) v 0

      rests : List Level
      rests = drop (v + 1) (levels raw)

      outside : (word : List ℕ) → is_word (domain ∷ drop (v + 1) (domains_of store)) word ≡ false → has store (id_at v node) word ≡ false
      outside word isnt = not_word store over v node is_node word (ap (λ ds. is_word ds word) (domains_split store v lt) ∙ isnt)

      past : (value : ℕ) (word : List ℕ) → nat_lt value domain ≡ false → (b : Bool) → accepts (level raw v ∷ rests) (Some p) (value ∷ word) ≡ b → b ≡ false
      past value word f true there =
          let small = (both (nat_lt value (get_or raw.domains v 0)) (is_word (map (λ l. l.domain) rests) word) (accepts-is_word (level raw v ∷ rests) (Some p) (value ∷ word) there)).0 in
          absurd (both_ways (nat_lt value domain) f (ap (nat_lt value) (sym (h.domains_are v lt).0) ∙ small))
      past value word f false there = refl

      by : (word : List ℕ) → ((q : ℕ) (child : Node) → slice_get (list (v + 1)) q ≡ Some child → (rest : List ℕ) → accepts rests (Some q) rest ≡ has store (id_at (v + 1) child) rest) → accepts (level raw v ∷ rests) (Some p) word ≡ has store (id_at v node) word
      by [] later = sym (outside [] refl)
      by (value ∷ word) later = case (nat_lt value domain) refl
        where
          case : (b : Bool) → nat_lt value domain ≡ b → accepts (level raw v ∷ rests) (Some p) (value ∷ word) ≡ has store (id_at v node) (value ∷ word)
          case true f =
              let inside : value < domain = ltb-true value domain f in
              let read : edge (level raw v) p value ≡ get_or (table v) (p * domain + value) None = ap (λ l. edge l p value) (sym (level_is v lt)) ∙ edge-is (layer_level v) p value inside in
              ap (λ x. accepts rests x word) read
              ∙ words_after v p value node word rests (get_or (table v) (p * domain + value) None) (edge_at store v (list v) (list (v + 1)) (table v) (h.layers v lt) p value node at inside)
              (λ q child there. later q child there word)
          case false f = past value word f (accepts (level raw v ∷ rests) (Some p) (value ∷ word)) refl ∙ sym (outside (value ∷ word) (ap (λ b. b && is_word (drop (v + 1) (domains_of store)) word) f))

  pub words_same : (word : List ℕ) → has_word raw word ≡ has store set word
  words_same word = words_from count 0 (omega arith) 0 h.root (ap (λ l. slice_get l 0) h.first) word ∙ ap (λ s. has store s word) (sym h.root_is)

  -- past the last variable stands one node
  terminal : length (list count) ≡ 1
  terminal = by (nat_lt 1 (length (list count))) refl
    where
      any_node : Node
      any_node = record { number = 0 }

      here : AreKept store count (list count)
      here = kept count (omega arith)

      words : (i j : ℕ) (a b : Node) → slice_get (list count) i ≡ Some a → slice_get (list count) j ≡ Some b → (word : List ℕ) → has store (id_at count a) word ≡ has store (id_at count b) word
      words i j a b at_a at_b [] = empty_word a (here.at_layer i a at_a) (here.filled i a at_a) ∙ sym (empty_word b (here.at_layer j b at_b) (here.filled j b at_b))
      words i j a b at_a at_b (value ∷ word) = no_more a (here.at_layer i a at_a) value word ∙ sym (no_more b (here.at_layer j b at_b) value word)

      by : (b : Bool) → nat_lt 1 (length (list count)) ≡ b → length (list count) ≡ 1
      by false e = let some_node = filled count (omega arith) in let few = ltb-false 1 (length (list count)) e in omega arith
      by true e =
          let many = ltb-true 1 (length (list count)) e in
          let a = get_or (list count) 0 any_node in
          let b = get_or (list count) 1 any_node in
          let at_a : slice_get (list count) 0 ≡ Some a = slice_get-get_or (list count) 0 any_node (omega arith) in
          let at_b : slice_get (list count) 1 ≡ Some b = slice_get-get_or (list count) 1 any_node many in
          let is_a = here.at_layer 0 a at_a in
          let is_b = here.at_layer 1 b at_b in
          let one : a ≡ b = node_is count a b (sym (one_set store (id_at count a) (id_at count b) is_a.0 (is_b.0, is_b.1 ∙ sym is_a.1) (words 0 1 a b at_a at_b))) in
          let place : ◌≡◌ {A = ℕ} 0 1 = here.once 0 1 b (at_a ∙ ap Some one) at_b in
          absurd (omega arith)

  -- the levels lead from the root to each layer, and from there to the end
  leads_to : (k v : ℕ) → v + k ≤ count → Leads (get_or raw.sizes v 0) (take k (drop v (levels raw))) (get_or raw.sizes (v + k) 0)
  leads_to zero v le = let same : v ≡ v + 0 = omega arith in ap (λ i. get_or raw.sizes i 0) same
  leads_to (suc k) v le =
      let lt : v < count = omega arith in
      let next : (v + 1) + k ≡ v + suc k = omega arith in
      subst (λ ls. Leads (get_or raw.sizes v 0) (take (suc k) ls) (get_or raw.sizes (v + suc k) 0)) (sym (drop-levels raw v (let n = h.domains_count in omega arith)))
      (refl, shaped v lt, canonical v lt, subst (λ i. Leads (get_or raw.sizes (v + 1) 0) (take k (drop (v + 1) (levels raw))) (get_or raw.sizes i 0)) next (leads_to k (v + 1) (omega arith)))

  chain_from : (k v : ℕ) → v + k ≡ count → IsChain (get_or raw.sizes v 0) (drop v (levels raw))
  chain_from zero v e =
      let end : v ≡ count = omega arith in
      subst (IsChain (get_or raw.sizes v 0)) (sym (drop-levels-end raw v (let n = h.domains_count in omega arith))) (ap (λ i. get_or raw.sizes i 0) end ∙ size_at count (omega arith) ∙ terminal)
  chain_from (suc k) v e =
      let lt : v < count = omega arith in
      subst (IsChain (get_or raw.sizes v 0)) (sym (drop-levels raw v (let n = h.domains_count in omega arith))) (refl, shaped v lt, canonical v lt, chain_from k (v + 1) (omega arith))

  root_size : get_or raw.sizes 0 0 ≡ 1
  root_size = size_at 0 (omega arith) ∙ ap length h.first

  -- each layer has as many nodes as the set has rests there
  layer_counted : (v : ℕ) → v ≤ count → get_or raw.sizes v 0 ≡ rest_count (has_word raw) (take v raw.domains) (drop v raw.domains)
  layer_counted v le =
      let ls = levels raw in
      let zeros : 0 + v ≡ v = omega arith in
      let lead : Leads 1 (take v ls) (get_or raw.sizes v 0) = subst (λ n. Leads n (take v ls) (get_or raw.sizes v 0)) root_size (subst (λ i. Leads (get_or raw.sizes 0 0) (take v ls) (get_or raw.sizes i 0)) zeros (leads_to v 0 (omega arith))) in
      let left_over : ℕ = count - v in
      let chain : IsChain (get_or raw.sizes v 0) (drop v ls) = chain_from left_over v (omega arith) in
      let front : map (λ l. l.domain) (take v ls) ≡ take v raw.domains = sym (take-map (λ (l : Level). l.domain) v ls) ∙ ap (take v) (domains-levels raw) in
      let back : map (λ l. l.domain) (drop v ls) ≡ drop v raw.domains = sym (drop-map (λ (l : Level). l.domain) v ls) ∙ ap (drop v) (domains-levels raw) in
      nodes_counted (take v ls) (drop v ls) (get_or raw.sizes v 0) lead chain ∙ (λ i. rest_count (accepts (take-append-drop v ls i) (Some 0)) (front i) (back i))

  sizes_count : length raw.sizes ≡ count + 1
  sizes_count = ap length h.sizes_are ∙ length-map h.lists length ∙ h.lists_count

  all_counted : sum raw.sizes ≡ size (domains_of store) (has store set)
  all_counted =
      let counted : ℕ → ℕ = λ layer. rest_count (has_word raw) (take layer raw.domains) (drop layer raw.domains) in
      let layers : length raw.sizes ≡ length raw.domains + 1 = sizes_count ∙ ap (λ n. n + 1) (sym h.domains_count) in
      ap sum (fill_by_all counted raw.sizes (length raw.domains + 1) 0 layers (λ layer lt. layer_counted layer (let n = h.domains_count in omega arith)))
      ∙ (λ i. size (domains_same i) (λ word. words_same word i))

  pub tables_canonical : 0 < count → count ≤ 64 → size (domains_of store) (has store set) ≤ MOST_NODES → IsCanonical raw
  tables_canonical some_variable few_variables few = record {
    shape = record {
      some_variables = let n = h.domains_count in omega arith;
      few_variables = let n = h.domains_count in omega arith;
      layers = sizes_count ∙ ap (λ n. n + 1) (sym h.domains_count);
      tables = h.edges_count ∙ sym h.domains_count;
      root = root_size;
      terminal = ap (λ n. get_or raw.sizes n 0) h.domains_count ∙ size_at count (omega arith) ∙ terminal;
      few_nodes = let all = all_counted in omega arith;
      shaped = λ v lt. shaped v (let n = h.domains_count in omega arith);
    };
    canonical = λ v lt. canonical v (let n = h.domains_count in omega arith);
  }
