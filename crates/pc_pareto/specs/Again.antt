-- Fronts that were made before one choice changed.
use Rattle.std.specs.Prelude.{◌≡◌, ℕ, List, None}
use Rattle.pc_diagram.specs.declared.choice.Choice.{Choice}
use Rattle.pc_diagram.specs.declared.costs.CostPair.{CostPair}
use Rattle.pc_diagram.specs.declared.raw_diagram.RawDiagram.{RawDiagram}
use Rattle.pc_diagram.specs.declared.side.Side.{Side}
use Rattle.pc_diagram.specs.Choices.{AgreeBeside}
use Rattle.pc_pareto.specs.declared.fronts.Fronts.{Fronts}
use Rattle.pc_pareto.specs.declared.limits.TheConstants.{MOST_LABELS}
use Rattle.pc_pareto.specs.Fronts.{limit_at}
use Rattle.pc_pareto.specs.FrontsView.{IsFrontsOf}

-- what the call made anew tells of the fronts of a side, for choices that agree with these at every variable other than one
pub record WereFrontsOf (side : Side) (raw : RawDiagram) (costs : List (List CostPair)) (choices : List Choice) (variable : ℕ) (fronts : Fronts) : Type 0 where
  pub before : List Choice
  pub made : IsFrontsOf side raw costs before fronts
  pub within : limit_at MOST_LABELS side raw costs before ≡ None
  pub agree : AgreeBeside variable before choices
