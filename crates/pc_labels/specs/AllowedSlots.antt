-- The slots that choices allow, as they are kept while a layer is made.
use Rattle.std.specs.Prelude.{◌≡◌, ◌↔◌, ℕ, ◌*◌, ◌<◌, ◌≤◌, ◌-◌, List, length, true, slice_index_or, Option, Some, None, is_some, if◌then◌else◌}
use Rattle.pc_diagram.specs.declared.costs.CostPair.{CostPair}
use Rattle.pc_diagram.specs.declared.weight.Ranked.{Ranked}
use Rattle.pc_diagram.specs.Costs.{pair_at}
use Rattle.pc_diagram.specs.NodePaths.{is_allowed}
use Rattle.pc_labels.specs.declared.slots.Slots.{Slots}
use Rattle.pc_labels.specs.declared.slots.Values.{Values}

-- the values that choices allow are those from the first on up to the end: the chosen one, or all
pub record AreAllowed (domain : ℕ) (chosen : Option ℕ) (values : Values) : Type 0 where
  pub order : values.first ≤ values.end
  pub within : values.end ≤ domain
  pub count : values.end - values.first ≡ (if is_some chosen then 1 else domain)
  pub allowed : (value : ℕ) → value < domain → ((values.first ≤ value) × (value < values.end)) ↔ (is_allowed chosen value ≡ true)

-- by value its costs, and itself so many times as a rank
pub record AreWeights (row : List CostPair) (scale : ℕ) (weights : List (Option Ranked)) : Type 0 where
  pub values : length weights ≡ length row
  pub each : (value : ℕ) → value < length row → slice_index_or weights value None ≡ Some (record { pair = pair_at row value; rank = value * scale })

-- both
pub record AreSlots (domain : ℕ) (chosen : Option ℕ) (row : List CostPair) (scale : ℕ) (slots : Slots) : Type 0 where
  pub width : length row ≡ domain
  pub values : AreAllowed domain chosen slots.values
  pub weights : AreWeights row scale slots.weights.items
