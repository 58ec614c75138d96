-- What is read of labels here.
use Rattle.std.specs.Prelude.{◌≡◌, ℕ, ◌+◌, ◌≤◌, [], length, slice_index, slice_index_or}
use Rattle.pc_diagram.specs.declared.raw_diagram.RawDiagram.{RawDiagram}
use Rattle.pc_labels.specs.Kept.{KeptPaths}

-- they have the layers and nodes of a diagram
pub record HaveNodes (raw : RawDiagram) (labels : KeptPaths) : Type 0 where
  pub layers : length labels.layers ≡ length raw.domains + 1
  pub nodes : (layer : ℕ) → layer ≤ length raw.domains → length (slice_index_or labels.layers layer []) ≡ slice_index raw.sizes layer
