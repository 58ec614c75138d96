-- Canonical diagrams.
use Rattle.std.specs.Prelude.{◌≡◌, ◌≢◌, ℕ, ◌+◌, ◌*◌, ◌<◌, ◌≤◌, true, false, length, sum, slice_index, is_some}
use Rattle.std.specs.List.{range_with_len, list_any}
use Rattle.pc_diagram.specs.declared.limits.TheConstants.{MOST_NODES, MOST_VALUES, MOST_VARIABLES}
use Rattle.pc_diagram.specs.declared.raw_diagram.RawDiagram.{RawDiagram}
use Rattle.pc_diagram.specs.DiagramFaults.{is_outside, met}
use Rattle.pc_diagram.specs.Fitting.{is_number}
use Rattle.pc_diagram.specs.Levels.{Level, level, row}

-- a variable takes 1 to 64 values, its layer and the next one have some nodes, and its table has an edge for each node
-- and value
pub record IsShapedLevel (l : Level) : Type 0 where
  pub some_values : 0 < l.domain
  pub few_values : l.domain ≤ MOST_VALUES
  pub some_nodes : 0 < l.size
  pub nodes_follow : 0 < l.next
  pub width : length l.table ≡ l.size * l.domain

-- 1 to 64 variables, one layer more, one node in the first and the last, and at most 262,144 nodes
pub record IsShaped (raw : RawDiagram) : Type 0 where
  pub some_variables : 0 < length raw.domains
  pub few_variables : length raw.domains ≤ MOST_VARIABLES
  pub layers : length raw.sizes ≡ length raw.domains + 1
  pub tables : length raw.edges ≡ length raw.domains
  pub root : slice_index raw.sizes 0 ≡ 1
  pub terminal : slice_index raw.sizes (length raw.domains) ≡ 1
  pub few_nodes : sum raw.sizes ≤ MOST_NODES
  pub shaped : (variable : ℕ) → variable < length raw.domains → IsShapedLevel (level raw variable)

-- the edges of a layer lead to the next one, each node has one, one leads to each node of the next layer, no two nodes
-- have the same, and the nodes of the next layer are numbered in the order in which they are first met
pub record IsCanonicalLevel (l : Level) : Type 0 where
  pub layered : list_any (is_outside l.next) l.table ≡ false
  pub live : (node : ℕ) → node < l.size → list_any is_some (row l node) ≡ true
  pub reached : (node : ℕ) → node < l.next → list_any (λ target. is_number target node) l.table ≡ true
  pub reduced : (node other : ℕ) → node < other → other < l.size → row l node ≢ row l other
  pub ordered : met l.table ≡ range_with_len 0 l.next

-- the tables of a diagram: layered, live, reached, reduced, and in canonical order
pub record IsCanonical (raw : RawDiagram) : Type 0 where
  pub shape : IsShaped raw
  pub canonical : (variable : ℕ) → variable < length raw.domains → IsCanonicalLevel (level raw variable)
