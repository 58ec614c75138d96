-- Nodes in layers, and the words that they have.
use Rattle.std.specs.Prelude.{◌≡◌, ℕ, zero, suc, ◌+◌, ◌<◌, ◌≤◌, ◌==◌, nat_eq, List, [], ◌∷◌, Bool, false, Some, length, replicate, slice_get, slice_index, slice_index_or, All}
use Rattle.std.specs.Cmp.Lexicographic.{pointwise}
use Rattle.std.specs.List.{IsDistinct}
use Rattle.pc_diagram.specs.declared.limits.TheConstants.{MOST_VALUES, MOST_VARIABLES}
use Rattle.pc_store.specs.Rows.{with_row}
use Rattle.pc_store.specs.declared.layer.Layer.{Layer}

-- the children of a node, one for each value
abbrev pub row_of : Layer → ℕ → List ℕ
row_of layer node = slice_index_or layer.table node []

-- how many nodes the first layer has. Below the last layer stand two: 0, without a word, and 1, with the empty word
abbrev pub node_count : List Layer → ℕ
node_count [] = 2
node_count (layer ∷ layers) = length layer.table

-- how many nodes the layers have, and the two below the last
abbrev pub node_total : List Layer → ℕ
node_total [] = 2
node_total (layer ∷ layers) = length layer.table + node_total layers

-- a node of the first layer has a word. Past the end of a list of children, and of nodes, stands node 0
abbrev pub accepts : List Layer → ℕ → List ℕ → Bool
accepts [] node [] = node == 1
accepts [] node (value ∷ word) = false
accepts (layer ∷ layers) node [] = false
accepts (layer ∷ layers) node (value ∷ word) = accepts layers (slice_index (row_of layer node) value) word

-- the children of a node: one for each value, each a node of the layer below
pub record IsRow (domain below : ℕ) (row : List ℕ) : Type 0 where
  pub width : length row ≡ domain
  pub within : All (λ child. child < below) row

-- a layer over another with so many nodes: its node 0 has no word and its node 1 every word, and no two nodes have the
-- same children
pub record IsLayer (below : ℕ) (layer : Layer) : Type 0 where
  pub some_value : 0 < layer.domain
  pub few_values : layer.domain ≤ MOST_VALUES
  pub empty : slice_get layer.table 0 ≡ Some (replicate layer.domain 0)
  pub full : slice_get layer.table 1 ≡ Some (replicate layer.domain 1)
  pub rows : All (IsRow layer.domain below) layer.table
  pub distinct : IsDistinct (pointwise nat_eq) layer.table

-- each layer is one over those below it
abbrev pub IsLayered : List Layer → Type 0
IsLayered [] = Unit {0}
IsLayered (layer ∷ layers) = IsLayer (node_count layers) layer × IsLayered layers

-- the layers of a store
pub record IsStore (layers : List Layer) : Type 0 where
  pub some_layer : 0 < length layers
  pub few_layers : length layers ≤ MOST_VARIABLES
  pub layered : IsLayered layers

-- a new layer: the node without words and the node with all, whatever stands below
abbrev pub new_layer : ℕ → Layer
new_layer domain = record { domain = domain; table = replicate domain 0 ∷ replicate domain 1 ∷ [] }

-- a number of values that a variable may have
pub record IsDomain (domain : ℕ) : Type 0 where
  pub some_value : 0 < domain
  pub few_values : domain ≤ MOST_VALUES

-- a row is one of this layer
abbrev pub RowFits : List Layer → ℕ → List ℕ → Type 0
RowFits [] place row = ⊥
RowFits (layer ∷ layers) zero row = IsRow layer.domain (node_count layers) row
RowFits (layer ∷ layers) (suc place) row = RowFits layers place row

-- the layers with one more row in one of them, unless it is there
abbrev pub with_row_at : List Layer → ℕ → List ℕ → List Layer
with_row_at [] place row = []
with_row_at (layer ∷ layers) zero row = record layer { table = with_row layer.table row } ∷ layers
with_row_at (layer ∷ layers) (suc place) row = layer ∷ with_row_at layers place row

-- a node of this layer has this row
abbrev pub HasRow : List Layer → ℕ → ℕ → List ℕ → Type 0
HasRow [] place node row = ⊥
HasRow (layer ∷ layers) zero node row = slice_get layer.table node ≡ Some row
HasRow (layer ∷ layers) (suc place) node row = HasRow layers place node row
