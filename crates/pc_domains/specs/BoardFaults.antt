-- What faults of boards tell.
use Rattle.std.specs.Prelude.{◌≡◌, ℕ, List, [], Option, None, Some}
use Rattle.pc_diagram.specs.declared.bounds.Bounds.{Bounds}
use Rattle.pc_diagram.specs.declared.choice.Choice.{Choice}
use Rattle.pc_diagram.specs.declared.costs.CostPair.{CostPair}
use Rattle.pc_diagram.specs.declared.raw_diagram.RawDiagram.{RawDiagram}
use Rattle.pc_diagram.specs.declared.side.Side.{Side}
use Rattle.pc_diagram.specs.Fitting.{fitting}
use Rattle.pc_diagram.specs.Paths.{words}
use Rattle.pc_pareto.specs.declared.front_fault.FrontFault.{FrontFault}
use Rattle.pc_pareto.specs.declared.front_fault.FrontFault.TheVariants as front
use Rattle.pc_domains.specs.declared.board_fault.BoardFault.{BoardFault}
use Rattle.pc_domains.specs.declared.board_fault.BoardFault.TheVariants.{LabelLimit, NoFit, NoMemory}
use Rattle.pc_domains.specs.LabelLimits.{limit_under}

-- a fault of fronts as one of boards
abbrev pub fault_of_front : FrontFault → BoardFault
fault_of_front (front.LabelLimit side layer) = LabelLimit side layer
fault_of_front front.NoMemory = NoMemory

-- a limit that is told for an end is its limit; want of memory may come in any case
abbrev pub IsEndFault : Option (Side × ℕ) → FrontFault → Type 0
IsEndFault limit (front.LabelLimit side layer) = limit ≡ Some (side, layer)
IsEndFault limit front.NoMemory = Unit {0}

-- a limit that is told is the board's; no word is told to fit exactly where there is no limit and none fits; want of memory
-- may come in any case
abbrev pub IsBoardFault : RawDiagram → List (List CostPair) → List Choice → Bounds → BoardFault → Type 0
IsBoardFault raw costs choices bounds (LabelLimit side layer) = limit_under raw costs choices bounds.second ≡ Some (side, layer)
IsBoardFault raw costs choices bounds NoFit = (limit_under raw costs choices bounds.second ≡ None) × (fitting costs (words raw) choices bounds ≡ [])
IsBoardFault raw costs choices bounds NoMemory = Unit {0}
