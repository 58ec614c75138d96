-- What the contracts see of the fronts of a side.
use Rattle.std.specs.Prelude.{◌≡◌, ℕ, ◌-◌, List, length}
use Rattle.pc_diagram.specs.declared.choice.Choice.{Choice}
use Rattle.pc_diagram.specs.declared.costs.CostPair.{CostPair}
use Rattle.pc_diagram.specs.declared.raw_diagram.RawDiagram.{RawDiagram}
use Rattle.pc_diagram.specs.declared.side.Side.{Side}
use Rattle.pc_pareto.specs.declared.front_item.FrontItem.{FrontItem}
use Rattle.pc_pareto.specs.declared.fronts.Fronts.{Fronts}
use Rattle.pc_pareto.specs.Fronts.{layer_at, AreFronts}

-- the side that they are of
abbrev pub side_of : Fronts → Side
side_of fronts = fronts.side

-- the items of each node of each layer, by the layer's distance from the end of the side
abbrev pub stages_of : Fronts → List (List (List FrontItem))
stages_of fronts = fronts.stages

-- how far a layer is from the end of the side
abbrev pub distance_of : Fronts → ℕ → ℕ
distance_of fronts layer = layer_at (side_of fronts) (length (stages_of fronts) - 1) layer

-- the fronts of a side of a diagram, with the choices
pub record IsFrontsOf (side : Side) (raw : RawDiagram) (costs : List (List CostPair)) (choices : List Choice) (fronts : Fronts) : Type 0 where
  pub side_is : side_of fronts ≡ side
  pub are : AreFronts side raw costs choices (stages_of fronts)
