-- What is read of fronts here.
use Rattle.std.specs.Prelude.{◌≡◌, ℕ, ◌+◌, ◌≤◌, [], length, slice_index, slice_index_or}
use Rattle.pc_diagram.specs.declared.raw_diagram.RawDiagram.{RawDiagram}
use Rattle.pc_pareto.specs.declared.fronts.Fronts.{Fronts}
use Rattle.pc_pareto.specs.FrontsView.{stages_of, distance_of}

-- they have the layers and nodes of a diagram
pub record HaveNodes (raw : RawDiagram) (fronts : Fronts) : Type 0 where
  pub layers : length (stages_of fronts) ≡ length raw.domains + 1
  pub nodes : (layer : ℕ) → layer ≤ length raw.domains → length (slice_index_or (stages_of fronts) (distance_of fronts layer) []) ≡ slice_index raw.sizes layer
