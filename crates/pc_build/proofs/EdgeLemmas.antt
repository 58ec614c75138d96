-- Edges to children, one child more at a time.
use Rattle.std.proofs.Common.{◌≡◌, ℕ, ◌+◌, ◌<◌, ◌==◌, nat_le, nat_lt, Bool, true, false, cond, not, ◌&&◌, ◌||◌, List, [], ◌∷◌, ◌++◌, filter, length, get_or, slice_get, Option, Some, None, if◌then◌else◌, inl, inr, ◌⊎◌, refl, sym, ap, ◌∙◌, subst, arith}
use Rattle.std.specs.List.{list_any, range_with_len, flat_map}
use Rattle.std.proofs.lemmas.Bool.Decides.{nat_tests}
use Rattle.std.proofs.lemmas.List.{append-nil, get_or_append_left, get_or_push, length_push, flat_map_more}
use Rattle.std.proofs.lemmas.List.Elements.{filter-append}
use Rattle.std.proofs.lemmas.Option.{slice_get_within, get_or_from_slice_get}
use Rattle.indexmap.specs.IndexSet.{insert_key}
use Rattle.pc_diagram.specs.DiagramFaults.{met}
use Rattle.pc_diagram.proofs.AnyLemmas.{any_kept, among_range, passes_at}
use Rattle.pc_diagram.proofs.WordLemmas.{range_more}
use Rattle.pc_store.specs.declared.id.Node.{Node}
use Rattle.pc_store.specs.declared.store.Store.{Store}
use Rattle.pc_store.specs.Sets.{AreChildren}
use Rattle.pc_apply.proofs.LevelLemmas.{last_or_before, still}
use Rattle.pc_apply.proofs.SplitLemmas.{same_node, same_node-Decides, RowsFirst, rows_none, rows_more}
use Rattle.pc_build.specs.Extracts.{IsEmpty, IsEdge, AreEdges, Extracts}

met_none : (edges : List (Option ℕ)) → met (edges ++ None ∷ []) ≡ met edges
met_none [] = refl
met_none (None ∷ edges) = met_none edges
met_none (Some target ∷ edges) = ap (λ l. target ∷ filter (λ other. not (other == target)) l) (met_none edges)

-- the numbers but one
abbrev kept : ℕ → List ℕ → List ℕ
kept target = filter (λ other. not (other == target))

-- one target more is met last, unless it was met before
met_more : (edges : List (Option ℕ)) (place : ℕ) → met (edges ++ Some place ∷ []) ≡ (if list_any (λ x. x == place) (met edges) then met edges else met edges ++ place ∷ [])
met_more [] place = refl
met_more (None ∷ edges) place = met_more edges place
met_more (Some target ∷ edges) place =
    ap (λ l. target ∷ filter (λ other. not (other == target)) l) (met_more edges place) ∙ by (target == place) refl (list_any (λ x. x == place) (met edges)) refl
  where
    by : (s : Bool) → (target == place) ≡ s → (b : Bool) → list_any (λ x. x == place) (met edges) ≡ b →
        target ∷ kept target (if list_any (λ x. x == place) (met edges) then met edges else met edges ++ place ∷ [])
        ≡ (if (target == place) || list_any (λ x. x == place) (kept target (met edges)) then target ∷ kept target (met edges) else target ∷ kept target (met edges) ++ place ∷ [])
    by true e true f = rw (e, f) refl
    by true e false f =
        let drops : not (place == target) ≡ false = grind (arith, nat_tests) in
        rw (e, f) (ap (λ l. target ∷ l) (filter-append (λ other. not (other == target)) (met edges) (place ∷ []) ∙ ap (λ b. kept target (met edges) ++ cond b (place ∷ []) []) drops ∙ append-nil (kept target (met edges))))
    by false e b f = ap (λ c. target ∷ kept target (if c then met edges else met edges ++ place ∷ [])) f ∙ choose b ∙ sym (ap (λ c. if c then target ∷ kept target (met edges) else target ∷ kept target (met edges) ++ place ∷ []) (ap (λ c. c || list_any (λ x. x == place) (kept target (met edges))) e ∙ same ∙ f))
      where
        same : list_any (λ x. x == place) (kept target (met edges)) ≡ list_any (λ x. x == place) (met edges)
        same = any_kept (λ x. x == place) (λ other. not (other == target)) (λ x p. grind (arith, nat_tests)) (met edges)

        stays : not (place == target) ≡ true
        stays = grind (arith, nat_tests)

        choose : (c : Bool) → target ∷ kept target (if c then met edges else met edges ++ place ∷ []) ≡ (if c then target ∷ kept target (met edges) else target ∷ kept target (met edges) ++ place ∷ [])
        choose true = refl
        choose false = ap (λ l. target ∷ l) (filter-append (λ other. not (other == target)) (met edges) (place ∷ []) ∙ ap (λ b. kept target (met edges) ++ cond b (place ∷ []) []) stays)

-- a target below so many stays among them, and the next one follows
met_below : (edges : List (Option ℕ)) (n place : ℕ) → met edges ≡ range_with_len 0 n → place < n → met (edges ++ Some place ∷ []) ≡ range_with_len 0 n
met_below edges n place is lt =
    met_more edges place ∙ ap (λ l. if list_any (λ x. x == place) l then l else l ++ place ∷ []) is
    ∙ ap (λ b. if b then range_with_len 0 n else range_with_len 0 n ++ place ∷ []) (among_range place 0 n ∙ among)
  where
    among : (nat_le 0 place && nat_lt place (0 + n)) ≡ true
    among = grind (arith, nat_tests)

met_next : (edges : List (Option ℕ)) (n place : ℕ) → met edges ≡ range_with_len 0 n → place ≡ n → met (edges ++ Some place ∷ []) ≡ range_with_len 0 (n + 1)
met_next edges n place is end =
    met_more edges place ∙ ap (λ l. if list_any (λ x. x == place) l then l else l ++ place ∷ []) is
    ∙ ap (λ b. if b then range_with_len 0 n else range_with_len 0 n ++ place ∷ []) (among_range place 0 n ∙ past) ∙ ap (λ k. range_with_len 0 n ++ k ∷ []) end ∙ sym (range_more n)
  where
    past : (nat_le 0 place && nat_lt place (0 + n)) ≡ false
    past = grind (arith, nat_tests)

-- no edges
pub edges_none : (store : Store) (layer : ℕ) → AreEdges store layer [] [] []
edges_none store layer = record { count = refl; each = λ i child at. absurd cc; once = λ i j node at. absurd cc; ordered = refl }

-- an edge stays one where nodes are added
edge_later : (store : Store) (layer : ℕ) (nodes more : List Node) (child : Node) (edge : Option ℕ) → IsEdge store layer nodes child edge → IsEdge store layer (nodes ++ more) child edge
edge_later store layer nodes more child None h = h
edge_later store layer nodes more child (Some place) h = (h.0, still nodes more place child h.1)

-- one edge more
each_more : (store : Store) (layer : ℕ) (children nodes more : List Node) (edges : List (Option ℕ)) (child : Node) (edge : Option ℕ) → AreEdges store layer children nodes edges → IsEdge store layer (nodes ++ more) child edge →
    (i : ℕ) (c : Node) → slice_get (children ++ child ∷ []) i ≡ Some c → IsEdge store layer (nodes ++ more) c (get_or (edges ++ edge ∷ []) i None)
each_more store layer children nodes more edges child edge h one i c at =
    elim (last_or_before children child c i at) [
      | inl before ↦
          let count = h.count in
          let inside : i < length edges = omega (arith, slice_get_within children i c before) in
          subst (IsEdge store layer (nodes ++ more) c) (sym (get_or_append_left edges (edge ∷ []) None i inside)) (edge_later store layer nodes more c (get_or edges i None) (h.each i c before))
      | inr last ↦
          let count = h.count in
          subst (IsEdge store layer (nodes ++ more) c) (sym (get_or_push edges edge None i (omega (arith, last.0)))) (subst (λ n. IsEdge store layer (nodes ++ more) n edge) (sym last.1) one)
    ]

count_more : {X Y : Type 0} (xs : List X) (ys : List Y) (x : X) (y : Y) → length xs ≡ length ys → length (xs ++ x ∷ []) ≡ length (ys ++ y ∷ [])
count_more xs ys x y e = length_push xs x ∙ ap (λ n. n + 1) e ∙ sym (length_push ys y)

-- an edge to no node
pub edges_empty : (store : Store) (layer : ℕ) (children nodes : List Node) (edges : List (Option ℕ)) (child : Node) → IsEmpty store layer child → AreEdges store layer children nodes edges → AreEdges store layer (children ++ child ∷ []) nodes (edges ++ None ∷ [])
edges_empty store layer children nodes edges child is h = record {
  count = count_more edges children None child h.count;
  each = λ i c at. subst (λ l. IsEdge store layer l c (get_or (edges ++ None ∷ []) i None)) (append-nil nodes) (each_more store layer children nodes [] edges child None h is i c at);
  once = h.once;
  ordered = met_none edges ∙ h.ordered;
}

-- an edge to a node that is there
edges_there : (store : Store) (layer : ℕ) (children nodes : List Node) (edges : List (Option ℕ)) (child : Node) (place : ℕ) → (IsEmpty store layer child → ⊥) → slice_get nodes place ≡ Some child → AreEdges store layer children nodes edges → AreEdges store layer (children ++ child ∷ []) nodes (edges ++ Some place ∷ [])
edges_there store layer children nodes edges child place other at h = record {
  count = count_more edges children (Some place) child h.count;
  each = λ i c here. subst (λ l. IsEdge store layer l c (get_or (edges ++ Some place ∷ []) i None)) (append-nil nodes) (each_more store layer children nodes [] edges child (Some place) h (other, still nodes [] place child at) i c here);
  once = h.once;
  ordered = met_below edges (length nodes) place h.ordered (slice_get_within nodes place child at);
}

-- an edge to a new node
edges_new : (store : Store) (layer : ℕ) (children nodes : List Node) (edges : List (Option ℕ)) (child : Node) (place : ℕ) → (IsEmpty store layer child → ⊥) → list_any (same_node child) nodes ≡ false → slice_get (nodes ++ child ∷ []) place ≡ Some child → AreEdges store layer children nodes edges →
    AreEdges store layer (children ++ child ∷ []) (nodes ++ child ∷ []) (edges ++ Some place ∷ [])
edges_new store layer children nodes edges child place other new at h = record {
  count = count_more edges children (Some place) child h.count;
  each = each_more store layer children nodes (child ∷ []) edges child (Some place) h (other, at);
  once = λ i j node a b. by i j node (last_or_before nodes child node i a) (last_or_before nodes child node j b);
  ordered = met_next edges (length nodes) place h.ordered end ∙ ap (range_with_len 0) (sym (length_push nodes child));
}
  where
    absent : (i : ℕ) → slice_get nodes i ≡ Some child → ⊥
    absent i there =
        let none = none_before nodes i child there new in
        absurd cc
      where
        none_before : (xs : List Node) (i : ℕ) (x : Node) → slice_get xs i ≡ Some x → list_any (same_node x) xs ≡ false → true ≡ false
        none_before xs i x there none = sym (passes_at (same_node x) xs i x (slice_get_within xs i x there) ((same_node-Decides x (get_or xs i x)).1 (sym (get_or_from_slice_get xs i x x there)))) ∙ none

    end : place ≡ length nodes
    end = elim (last_or_before nodes child child place at) [ inl before ↦ absurd (absent place before) | inr last ↦ last.0 ]

    by : (i j : ℕ) (node : Node) → (slice_get nodes i ≡ Some node) ⊎ ((i ≡ length nodes) × (node ≡ child)) → (slice_get nodes j ≡ Some node) ⊎ ((j ≡ length nodes) × (node ≡ child)) → i ≡ j
    by i j node (inl a) (inl b) = h.once i j node a b
    by i j node (inl a) (inr b) = absurd (absent i (a ∙ ap Some b.1))
    by i j node (inr a) (inl b) = absurd (absent j (b ∙ ap Some a.1))
    by i j node (inr a) (inr b) = a.0 ∙ sym b.0

-- an edge to the place of a child
pub edges_more : (store : Store) (layer : ℕ) (children old new : List Node) (edges : List (Option ℕ)) (child found : Node) (place : ℕ) → (IsEmpty store layer child → ⊥) → new ≡ insert_key same_node old child → slice_get new place ≡ Some found → same_node child found ≡ true → AreEdges store layer children old edges →
    AreEdges store layer (children ++ child ∷ []) new (edges ++ Some place ∷ [])
edges_more store layer children old new edges child found place other keys at same h = by (list_any (same_node child) old) refl
  where
    one : found ≡ child
    one = sym ((same_node-Decides child found).0 same)

    there : slice_get new place ≡ Some child
    there = at ∙ ap Some one

    by : (b : Bool) → list_any (same_node child) old ≡ b → AreEdges store layer (children ++ child ∷ []) new (edges ++ Some place ∷ [])
    by true e =
        let is : new ≡ old = keys ∙ ap (λ b. if b then old else old ++ child ∷ []) e in
        subst (λ l. AreEdges store layer (children ++ child ∷ []) l (edges ++ Some place ∷ [])) (sym is) (edges_there store layer children old edges child place other (subst (λ l. slice_get l place ≡ Some child) is there) h)
    by false e =
        let is : new ≡ old ++ child ∷ [] = keys ∙ ap (λ b. if b then old else old ++ child ∷ []) e in
        subst (λ l. AreEdges store layer (children ++ child ∷ []) l (edges ++ Some place ∷ [])) (sym is) (edges_new store layer children old edges child place other e (subst (λ l. slice_get l place ≡ Some child) is there) h)

-- the edges of the first nodes of a layer
pub record FirstEdges (store : Store) (layer : ℕ) (nodes : List Node) (count : ℕ) (next : List Node) (edges : List (Option ℕ)) : Type 0 where
  pub rows : List (List Node)
  pub first : RowsFirst store layer nodes count rows
  pub are_edges : AreEdges store (layer + 1) (flat_map (λ row. row) rows) next edges

pub first_edges_none : (store : Store) (layer : ℕ) (nodes : List Node) → FirstEdges store layer nodes 0 [] []
first_edges_none store layer nodes = record { rows = []; first = rows_none store layer nodes; are_edges = edges_none store (layer + 1) }

pub first_edges_more : (store : Store) (layer : ℕ) (nodes : List Node) (count : ℕ) (node : Node) (row next more : List Node) (edges more_edges : List (Option ℕ)) → node ≡ get_or nodes count node → AreChildren store layer node row →
    ((before : List Node) → AreEdges store (layer + 1) before next edges → AreEdges store (layer + 1) (before ++ row) more more_edges) → FirstEdges store layer nodes count next edges → FirstEdges store layer nodes (count + 1) more more_edges
first_edges_more store layer nodes count node row next more edges more_edges read are later h = record {
  rows = h.rows ++ row ∷ [];
  first = rows_more store layer nodes count node h.rows row read are h.first;
  are_edges = subst (λ l. AreEdges store (layer + 1) l more more_edges) (flat_map_more (λ (r : List Node). r) [] h.rows row) (later (flat_map (λ row. row) h.rows) h.are_edges);
}

pub first_edges_all : (store : Store) (layer : ℕ) (nodes : List Node) (count : ℕ) (next : List Node) (edges : List (Option ℕ)) → count ≡ length nodes → FirstEdges store layer nodes count next edges → Extracts store layer nodes next edges
first_edges_all store layer nodes count next edges end h = record { rows = h.rows; are_rows = record { count = h.first.count_is ∙ end; each = h.first.each }; are_edges = h.are_edges }
