-- What is kept from an end of a diagram.
use Rattle.std.specs.Prelude.{◌≡◌, ℕ, ◌<◌, ℤ, List, [], length, slice_index_or, Bool, false, Option, None, Some}
use Rattle.std.specs.List.{list_any}
use Rattle.pc_diagram.specs.declared.bounds.Bounds.{Bounds}
use Rattle.pc_diagram.specs.declared.choice.Choice.{Choice}
use Rattle.pc_diagram.specs.declared.costs.CostPair.{CostPair}
use Rattle.pc_diagram.specs.declared.raw_diagram.RawDiagram.{RawDiagram}
use Rattle.pc_diagram.specs.declared.side.Side.{Side}
use Rattle.pc_diagram.specs.declared.side.Side.TheVariants.{Heads, Tails}
use Rattle.pc_diagram.specs.Bounds.{allows_pair}
use Rattle.pc_diagram.specs.Choices.{AgreeBeside}
use Rattle.pc_labels.specs.Kept.{Kept, KeptPaths, kept_at}
use Rattle.pc_labels.specs.Labels.{AreHeads, AreTails}
use Rattle.pc_pareto.specs.Fronts.{items_at}
use Rattle.pc_pareto.specs.FrontsView.{IsFrontsOf, distance_of, stages_of}
use Rattle.pc_pareto.specs.Items.{pair_of}
use Rattle.pc_domains.specs.declared.ends.Ends.{Ends}
use Rattle.pc_domains.specs.declared.ends.Ends.TheVariants.{Least, Pairs}
use Rattle.pc_domains.specs.LabelLimits.{end_limit}

-- the labels of a side
abbrev pub AreLabelsOf : Side → RawDiagram → List (List CostPair) → List Choice → KeptPaths → Type 0
AreLabelsOf Heads raw costs choices labels = AreHeads raw choices costs labels
AreLabelsOf Tails raw costs choices labels = AreTails raw choices costs labels

-- what is kept from an end with these choices: fronts where the second cost has a bound, and else labels
abbrev pub IsEndOf : Side → RawDiagram → List (List CostPair) → List Choice → Option ℤ → Ends → Type 0
IsEndOf side raw costs choices None (Least labels) = AreLabelsOf side raw costs choices labels
IsEndOf side raw costs choices None (Pairs fronts) = ⊥
IsEndOf side raw costs choices (Some bound) (Least labels) = ⊥
IsEndOf side raw costs choices (Some bound) (Pairs fronts) = IsFrontsOf side raw costs choices fronts

-- what was kept from an end, within its limit, with choices that agree with these at every variable other than one
pub record WasEndOf (side : Side) (raw : RawDiagram) (costs : List (List CostPair)) (choices : List Choice) (second : Option ℤ) (variable : ℕ) (ends : Ends) : Type 0 where
  pub before : List Choice
  pub made : IsEndOf side raw costs before second ends
  pub within : end_limit side raw costs before second ≡ None
  pub agree : AgreeBeside variable before choices

-- an end has a root
abbrev pub HasRoot : Ends → Type 0
HasRoot (Least labels) = (0 < length labels.layers) × (0 < length (slice_index_or labels.layers 0 []))
HasRoot (Pairs fronts) = (0 < length (stages_of fronts)) × (0 < length (slice_index_or (stages_of fronts) (distance_of fronts 0) []))

-- a path is kept, within the bounds
abbrev pub is_within : Bounds → Option Kept → Bool
is_within bounds None = false
is_within bounds (Some kept) = allows_pair bounds kept.pair

-- some path that is kept of the root is within the bounds
abbrev pub root_is_within : Bounds → Ends → Bool
root_is_within bounds (Least labels) = is_within bounds (kept_at labels 0 0)
root_is_within bounds (Pairs fronts) = list_any (λ item. allows_pair bounds (pair_of item)) (items_at (stages_of fronts) (distance_of fronts 0) 0)
