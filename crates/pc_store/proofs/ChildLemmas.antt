-- What the words of sets go on with.
use Rattle.std.proofs.Common.{◌≡◌, ℕ, ◌+◌, ◌<◌, List, map, length, get_or, Some, slice_get, sym, ap, ◌∙◌, subst, arith}
use Rattle.std.proofs.lemmas.List.{length-map, get_or-map}
use Rattle.std.proofs.lemmas.Option.{get_or_from_slice_get, slice_get_within}
use Rattle.pc_store.specs.declared.id.Node.{Node}
use Rattle.pc_store.specs.declared.layer.Layer.{Layer}
use Rattle.pc_store.specs.Layered.{row_of, IsLayered}
use Rattle.pc_store.specs.Sets.{domains_of, layer_of, id_at, IsNodeAt, has, AreChildren}
use Rattle.pc_store.proofs.SetLemmas.{IsInner, inner_read, child_is_id, child_has}

-- the node with a number
abbrev node_of : ℕ → Node
node_of number = record { number = number }

-- a child has the number that stands in the row
child_at : (row : List ℕ) (value : ℕ) (child : Node) → slice_get (map node_of row) value ≡ Some child → node_of (get_or row value 0) ≡ child
child_at row value child at =
    let inside = slice_get_within (map node_of row) value child at in
    sym (get_or-map node_of row value 0 child (omega (arith, length-map row node_of))) ∙ get_or_from_slice_get (map node_of row) value child child at

-- the children that the row of a set names
pub children_are : (store : List Layer) → IsLayered store → (layer : ℕ) (node : Node) (first : Layer) → IsInner store (id_at layer node) first → AreChildren store layer node (map (λ number. record { number = number }) (row_of first node.number))
unfolding domains_of layer_of id_at
children_are store h layer node first is = record {
  count = length-map row node_of ∙ is.row.width ∙ is.stands.domain;
  nodes = λ value child at. subst (IsNodeAt store (layer + 1)) (child_at row value child at) (child_is_id store h (id_at layer node) first is value (inside value child at));
  sets = λ value child at word. ap (λ (c : Node). has store (id_at (layer + 1) c) word) (sym (child_at row value child at)) ∙ child_has store (id_at layer node) first is value word;
}
  where
    row : List ℕ
    row = row_of first node.number

    inside : (value : ℕ) (child : Node) → slice_get (map node_of row) value ≡ Some child → value < first.domain
    inside value child at = let lt = slice_get_within (map node_of row) value child at in omega (arith, length-map row node_of, is.row.width)

-- a node before the last layer, as its layer was read
pub inner_node : (store : List Layer) → IsLayered store → (layer : ℕ) (node : Node) (first : Layer) → first ≡ get_or store layer first → IsNodeAt store layer node → layer < length (domains_of store) → IsInner store (id_at layer node) first
unfolding domains_of layer_of id_at
inner_node store h layer node first read is lt = inner_read store h (id_at layer node) first read is.0 lt
