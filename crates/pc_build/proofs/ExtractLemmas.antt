-- What the edges of a layer's nodes tell of their words.
use Rattle.std.proofs.Common.{◌≡◌, ℕ, zero, suc, ◌+◌, ◌*◌, ◌/◌, ◌%◌, ◌<◌, ◌≤◌, ◌==◌, nat_eq, nat_le, nat_lt, Bool, true, false, ◌&&◌, List, [], ◌∷◌, ◌++◌, filter, length, drop, get_or, slice_get, Option, Some, None, refl, sym, ap, ◌∙◌, subst, arith, length-append}
use Rattle.std.specs.Cmp.Lexicographic.{pointwise}
use Rattle.std.specs.List.{list_any, flat_map}
use Rattle.std.proofs.Math.Nat.{div-lt_iff_lt-mul, mul-le-mul_right}
use Rattle.std.proofs.lemmas.Bool.{both_ways}
use Rattle.std.proofs.lemmas.Bool.Decides.{nat_tests}
use Rattle.std.proofs.lemmas.List.{get_or_append_left, get_or-append-add, length-append}
use Rattle.std.proofs.lemmas.Option.{slice_get-get_or, slice_get_within, same_Some}
use Rattle.std.proofs.lemmas.Slice.Eq.{bytes_eq-Decides}
use Rattle.pc_diagram.specs.Fitting.{is_number}
use Rattle.pc_diagram.specs.Levels.{row}
use Rattle.pc_diagram.specs.Words.{is_word, all_words}
use Rattle.pc_diagram.proofs.AnyLemmas.{among_range, one_at, passes_at}
use Rattle.pc_diagram.proofs.ShapeLemmas.{both}
use Rattle.pc_diagram.proofs.TurnLemmas.{met-any}
use Rattle.pc_diagram.proofs.UniqueLemmas.{reaches}
use Rattle.pc_diagram.proofs.WordLemmas.{kept_words-is}
use Rattle.pc_store.specs.declared.id.Id.{Id}
use Rattle.pc_store.specs.declared.id.Node.{Node}
use Rattle.pc_store.specs.declared.store.Store.{Store}
use Rattle.pc_store.specs.Sets.{domains_of, layer_of, id_at, IsId, IsNodeAt, has, AreChildren}
use Rattle.pc_store.proofs.SetLemmas.{words_are_over}
use Rattle.pc_build.specs.Extracts.{IsEmpty, IsEdge, Extracts}

-- the rows in one list
abbrev flat : List (List Node) → List Node
flat rows = flat_map (λ row. row) rows

flat_width : (rows : List (List Node)) (d : ℕ) → ((p : ℕ) → p < length rows → length (get_or rows p []) ≡ d) → length (flat rows) ≡ length rows * d
flat_width [] d w = let e : 0 ≡ 0 * d = omega arith in e
flat_width (row ∷ rows) d w =
    let here : length row ≡ d = w 0 (omega arith) in
    let later = flat_width rows d (λ p lt. w (suc p) (omega arith)) in
    let e : length row + length (flat rows) ≡ suc (length rows) * d = omega arith in
    length-append row (flat rows) ∙ e

flat_read : (rows : List (List Node)) (d : ℕ) → ((p : ℕ) → p < length rows → length (get_or rows p []) ≡ d) → (p v : ℕ) (x : Node) → p < length rows → v < d → get_or (flat rows) (p * d + v) x ≡ get_or (get_or rows p []) v x
flat_read [] d w p v x lt inside = absurd (omega arith)
flat_read (row ∷ rows) d w zero v x lt inside =
    let here : length row ≡ d = w 0 (omega arith) in
    let e : 0 * d + v ≡ v = omega arith in
    let within : v < length row = omega arith in
    ap (λ i. get_or (row ++ flat rows) i x) e ∙ get_or_append_left row (flat rows) x v within
flat_read (row ∷ rows) d w (suc p) v x lt inside =
    let here : length row ≡ d = w 0 (omega arith) in
    let e : suc p * d + v ≡ length row + (p * d + v) = omega arith in
    ap (λ i. get_or (row ++ flat rows) i x) e ∙ get_or-append-add row (flat rows) (p * d + v) x ∙ flat_read rows d (λ q below. w (suc q) (omega arith)) p v x (omega arith) inside

-- a place in a table
in_table : (p v n d : ℕ) → p < n → v < d → p * d + v < n * d
in_table p v n d lt inside =
    let room : (p + 1) * d ≤ n * d = mul-le-mul_right d (let le : p + 1 ≤ n = omega arith in le) in
    omega arith

-- the words of sets are words over the domains from their layer on
abbrev pub AreOver : Store → Type 0
AreOver store = (id : Id) → IsId store id → (word : List ℕ) → has store id word ≡ true → is_word (drop (layer_of id) (domains_of store)) word ≡ true

pub are_over : (store : Store) → AreOver store
are_over store id is word there = words_are_over store (layer_of id) id (is, refl) word there

pub node_over : (store : Store) → AreOver store → (layer : ℕ) (node : Node) → IsNodeAt store layer node → (word : List ℕ) → has store (id_at layer node) word ≡ true → is_word (drop layer (domains_of store)) word ≡ true
node_over store over layer node is word there = subst (λ l. is_word (drop l (domains_of store)) word ≡ true) is.1 (over (id_at layer node) is.0 word there)

-- what is no word is in no set
pub not_word : (store : Store) → AreOver store → (layer : ℕ) (node : Node) → IsNodeAt store layer node → (word : List ℕ) → is_word (drop layer (domains_of store)) word ≡ false → has store (id_at layer node) word ≡ false
not_word store over layer node is word isnt = by (has store (id_at layer node) word) refl
  where
    by : (b : Bool) → has store (id_at layer node) word ≡ b → has store (id_at layer node) word ≡ false
    by true e = absurd (both_ways (is_word (drop layer (domains_of store)) word) isnt (node_over store over layer node is word e))
    by false e = e

-- a set that isn't empty has a word
pub some_word : (store : Store) → AreOver store → (layer : ℕ) (node : Node) → IsNodeAt store layer node → (IsEmpty store layer node → ⊥) → (word : List ℕ) × (has store (id_at layer node) word ≡ true)
some_word store over layer node is some = by (filter set (all_words domains)) refl
  where
    domains : List ℕ
    domains = drop layer (domains_of store)

    set : List ℕ → Bool
    set word = has store (id_at layer node) word

    none : filter set (all_words domains) ≡ [] → IsEmpty store layer node
    none e word = case (set word) refl
      where
        case : (b : Bool) → set word ≡ b → set word ≡ false
        case true there =
            let found : list_any (pointwise nat_eq word) (filter set (all_words domains)) ≡ true = kept_words-is set domains word ∙ (λ i. there i && node_over store over layer node is word there i) in
            absurd (both_ways (list_any (pointwise nat_eq word) (filter set (all_words domains))) (ap (list_any (pointwise nat_eq word)) e) found)
        case false there = there

    by : (words : List (List ℕ)) → filter set (all_words domains) ≡ words → (word : List ℕ) × (has store (id_at layer node) word ≡ true)
    by [] e = absurd (some (none e))
    by (word ∷ words) e =
        let itself : list_any (pointwise nat_eq word) (word ∷ words) ≡ true = passes_at (pointwise nat_eq word) (word ∷ words) 0 [] (omega arith) ((bytes_eq-Decides word word).1 refl) in
        (word, (both (set word) (is_word domains word) (sym (kept_words-is set domains word) ∙ ap (list_any (pointwise nat_eq word)) e ∙ itself)).0)

-- an edge of a node, and the child that it stands for
pub record EdgeAt (store : Store) (layer : ℕ) (node : Node) (value : ℕ) (next : List Node) (edge : Option ℕ) : Type 0 where
  pub child : Node
  pub is_node : IsNodeAt store (layer + 1) child
  pub words : (word : List ℕ) → has store (id_at (layer + 1) child) word ≡ has store (id_at layer node) (value ∷ word)
  pub is_edge : IsEdge store (layer + 1) next child edge

module _ (store : Store) (layer : ℕ) (nodes next : List Node) (edges : List (Option ℕ)) (e : Extracts store layer nodes next edges) where
  abbrev domain : ℕ
  domain = get_or (domains_of store) layer 0

  any_node : Node
  any_node = record { number = 0 }

  row_wide : (p : ℕ) → p < length e.rows → length (get_or e.rows p []) ≡ domain
  row_wide p lt =
      let count = e.are_rows.count in
      (e.are_rows.each p (get_or nodes p any_node) (get_or e.rows p []) (slice_get-get_or nodes p any_node (omega arith)) (slice_get-get_or e.rows p [] lt)).count

  pub edges_width : length edges ≡ length nodes * domain
  edges_width = e.are_edges.count ∙ flat_width e.rows domain row_wide ∙ ap (λ n. n * domain) e.are_rows.count

  pub edge_at : (p value : ℕ) (node : Node) → slice_get nodes p ≡ Some node → value < domain → EdgeAt store layer node value next (get_or edges (p * domain + value) None)
  edge_at p value node at lt = record {
    child = child;
    is_node = are.nodes value child here;
    words = are.sets value child here;
    is_edge = e.are_edges.each (p * domain + value) child there;
  }
    where
      inside : p < length e.rows
      inside = let count = e.are_rows.count in omega (arith, slice_get_within nodes p node at)

      line : List Node
      line = get_or e.rows p []

      are : AreChildren store layer node line
      are = e.are_rows.each p node line at (slice_get-get_or e.rows p [] inside)

      child : Node
      child = get_or line value any_node

      here : slice_get line value ≡ Some child
      here = slice_get-get_or line value any_node (let count = are.count in omega arith)

      there : slice_get (flat e.rows) (p * domain + value) ≡ Some child
      there =
          let within : p * domain + value < length (flat e.rows) = omega (arith, in_table p value (length e.rows) domain inside lt, flat_width e.rows domain row_wide) in
          slice_get-get_or (flat e.rows) (p * domain + value) any_node within ∙ ap Some (flat_read e.rows domain row_wide p value any_node inside lt)

  -- an edge leads to each node of the next layer
  pub target_reached : (q : ℕ) → q < length next → list_any (λ target. is_number target q) edges ≡ true
  target_reached q lt = sym (met-any edges q) ∙ ap (list_any (λ x. x == q)) e.are_edges.ordered ∙ among_range q 0 (length next) ∙ among
    where
      among : (nat_le 0 q && nat_lt q (0 + length next)) ≡ true
      among = grind (arith, nat_tests)

  -- a node of the next layer is no empty one
  pub next_at : (q : ℕ) (node : Node) → slice_get next q ≡ Some node → IsNodeAt store (layer + 1) node × (IsEmpty store (layer + 1) node → ⊥)
  next_at q node at =
      (subst (IsNodeAt store (layer + 1)) same is.is_node, λ none. found.0 (subst (IsEmpty store (layer + 1)) (sym same) none))
    where
      one : (i : ℕ) × (i < length edges) × (is_number (get_or edges i None) q ≡ true)
      one = one_at (λ target. is_number target q) edges None (target_reached q (slice_get_within next q node at))

      p : ℕ
      p = one.0 / domain

      value : ℕ
      value = one.0 % domain

      small : one.0 < length nodes * domain
      small = omega (arith, one.1, edges_width)

      some : 0 < domain
      some = by domain small
        where
          by : (d : ℕ) → one.0 < length nodes * d → 0 < d
          by zero lt = absurd (omega arith)
          by (suc d) lt = omega arith

      row_lt : p < length nodes
      row_lt = (div-lt_iff_lt-mul {k = domain} {x = one.0} {y = length nodes} some).1 small

      value_lt : value < domain
      value_lt = let s = some in omega arith

      place : p * domain + value ≡ one.0
      place = let s = some in omega arith

      is : EdgeAt store layer (get_or nodes p any_node) value next (get_or edges (p * domain + value) None)
      is = edge_at p value (get_or nodes p any_node) (slice_get-get_or nodes p any_node row_lt) value_lt

      found : IsEdge store (layer + 1) next is.child (Some q)
      found = subst (IsEdge store (layer + 1) next is.child) (ap (λ i. get_or edges i None) place ∙ reaches (get_or edges one.0 None) q one.2) is.is_edge

      same : is.child ≡ node
      same = same_Some is.child node (sym found.1 ∙ at)
