-- The layers of the diagram of a set.
use Rattle.std.specs.Prelude.{◌≡◌, ℕ, ◌+◌, List, false, Option, None, Some, length, slice_get, slice_index_or}
use Rattle.std.specs.List.{range_with_len, flat_map}
use Rattle.pc_diagram.specs.DiagramFaults.{met}
use Rattle.pc_store.specs.declared.id.Node.{Node}
use Rattle.pc_store.specs.declared.store.Store.{Store}
use Rattle.pc_store.specs.Sets.{id_at, has}
use Rattle.pc_apply.specs.Lists.{AreRows}

-- a set of a layer has no word
abbrev pub IsEmpty : Store → ℕ → Node → Type 0
IsEmpty store layer node = (word : List ℕ) → has store (id_at layer node) word ≡ false

-- the edge to a child: none to a set without words, else the child's place among the nodes of its layer
abbrev pub IsEdge : Store → ℕ → List Node → Node → Option ℕ → Type 0
IsEdge store layer nodes child None = IsEmpty store layer child
IsEdge store layer nodes child (Some place) = (IsEmpty store layer child → ⊥) × (slice_get nodes place ≡ Some child)

-- the edges to some children of a layer, and the nodes that they lead to: none twice, in the order in which they are
-- first met
pub record AreEdges (store : Store) (layer : ℕ) (children nodes : List Node) (edges : List (Option ℕ)) : Type 0 where
  pub count : length edges ≡ length children
  pub each : (i : ℕ) (child : Node) → slice_get children i ≡ Some child → IsEdge store layer nodes child (slice_index_or edges i None)
  pub once : (i j : ℕ) (node : Node) → slice_get nodes i ≡ Some node → slice_get nodes j ≡ Some node → i ≡ j
  pub ordered : met edges ≡ range_with_len 0 (length nodes)

-- the edges of the nodes of a layer, by node and then by value, and the nodes of the next layer that they lead to
pub record Extracts (store : Store) (layer : ℕ) (nodes next : List Node) (edges : List (Option ℕ)) : Type 0 where
  pub rows : List (List Node)
  pub are_rows : AreRows store layer nodes rows
  pub are_edges : AreEdges store (layer + 1) (flat_map (λ row. row) rows) next edges
