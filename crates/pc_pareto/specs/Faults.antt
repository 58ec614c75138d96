-- What faults of fronts tell.
use Rattle.std.specs.Prelude.{◌≡◌, ℕ, List, length, Some}
use Rattle.pc_diagram.specs.declared.choice.Choice.{Choice}
use Rattle.pc_diagram.specs.declared.costs.CostPair.{CostPair}
use Rattle.pc_diagram.specs.declared.raw_diagram.RawDiagram.{RawDiagram}
use Rattle.pc_diagram.specs.declared.side.Side.{Side}
use Rattle.pc_pareto.specs.declared.front_fault.FrontFault.{FrontFault}
use Rattle.pc_pareto.specs.declared.front_fault.FrontFault.TheVariants.{LabelLimit, NoMemory}
use Rattle.pc_pareto.specs.declared.limits.TheConstants.{MOST_LABELS}
use Rattle.pc_pareto.specs.Fronts.{layer_at, limit_at}

-- a limit that is told is one; want of memory may come in any case
abbrev pub IsFaultAt : (Side → ℕ → Type 0) → FrontFault → Type 0
IsFaultAt P (LabelLimit side layer) = P side layer
IsFaultAt P NoMemory = Unit {0}

-- a limit is that of a side: the layer at the first distance at which the side has more than 1,048,576 pairs
abbrev pub IsLimitOf : Side → RawDiagram → List (List CostPair) → List Choice → Side → ℕ → Type 0
IsLimitOf side raw costs choices at_side at_layer =
    (at_side ≡ side) × (distance : ℕ) × (at_layer ≡ layer_at side (length raw.domains) distance)
    × (limit_at MOST_LABELS side raw costs choices ≡ Some distance)
