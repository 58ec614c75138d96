-- Layers in the making.
use Rattle.std.specs.Prelude.{◌≡◌, ◌≢◌, ◌⊎◌, ℕ, ◌+◌, ◌*◌, ◌<◌, ◌≤◌, List, length, slice_index_or, Option, Some, None, option_map}
use Rattle.pc_diagram.specs.declared.costs.CostPair.{CostPair}
use Rattle.pc_diagram.specs.declared.weight.Ranked.{Ranked}
use Rattle.pc_diagram.specs.Levels.{Level, edge}
use Rattle.pc_diagram.specs.Weight.{plus, plus_ranked, with_rank, IsRanked}
use Rattle.pc_labels.specs.declared.slots.Slots.{Slots}
use Rattle.pc_labels.specs.declared.step.Step.{Step}
use Rattle.pc_labels.specs.Marks.{Marks, weight_at}
use Rattle.pc_labels.specs.Slots.{IsLeastOf, AreNextHeads, AreNextTails, AreRanksAnew}

-- the step back from a node
abbrev pub step_at : Marks → ℕ → Step
step_at marks node = slice_index_or marks.steps node (record { node = 0; value = 0 })

-- a step by one of the values that slots have
abbrev pub IsOf : Slots → Step → Type 0
IsOf slots step = (slots.values.first ≤ step.value) × (step.value < slots.values.end)

-- what the slot of a step adds to a path
abbrev pub slot_weight : Slots → Step → Option Ranked
slot_weight slots step = slice_index_or slots.weights.items step.value None

-- each slot adds something
abbrev pub HaveWeights : Slots → Type 0
HaveWeights slots = (step : Step) → IsOf slots step → slot_weight slots step ≢ None

-- the weight of a node with room in its rank for so many values
abbrev pub widened : ℕ → Marks → ℕ → Option Ranked
widened domain marks node = option_map (λ r. with_rank (r.rank * domain) r) (weight_at marks node)

-- the path to a node, gone on by a step
abbrev pub onward_by : ℕ → Slots → Marks → Step → Option Ranked
onward_by domain slots before step = plus (widened domain before step.node) (slot_weight slots step)

-- the path from a node, come to by a step
abbrev pub backward_by : Slots → Marks → Step → Option Ranked
backward_by slots after step = plus (weight_at after step.node) (slot_weight slots step)

-- both in range, with ranks below a limit
abbrev pub HasPlace : ℕ → Option Ranked → Option Ranked → Type 0
HasPlace limit a b = (x y : Ranked) → a ≡ Some x → b ≡ Some y → IsRanked (plus_ranked x y) × ((x.rank + y.rank) < limit)

-- each path may go on by each slot
abbrev pub MayGoOn : ℕ → Slots → Marks → Type 0
MayGoOn domain slots before = (step : Step) → IsOf slots step → HasPlace (before.limit * domain) (widened domain before step.node) (slot_weight slots step)

-- each path may be come to by each slot
abbrev pub MayComeFrom : ℕ → Slots → Marks → Type 0
MayComeFrom domain slots after = (step : Step) → IsOf slots step → HasPlace (after.limit * domain) (weight_at after step.node) (slot_weight slots step)

-- a step to a node, from one of the nodes before this one, or from this one by one of the values before this one
pub record HasLed (l : Level) (slots : Slots) (node value target : ℕ) (step : Step) : Type 0 where
  pub before : step.node < l.size
  pub of_slots : IsOf slots step
  pub leads : edge l step.node step.value ≡ Some target
  pub past : (step.node < node) ⊎ ((step.node ≡ node) × (step.value < value))

-- each node of the next layer has the least of what has led to it
pub record AreHeadsSoFar (l : Level) (slots : Slots) (before : Marks) (node value : ℕ) (marks : Marks) : Type 0 where
  pub nodes : length marks.weights ≡ l.next
  pub steps : length marks.steps ≡ l.next
  pub limit : marks.limit ≡ before.limit * l.domain
  pub least : (target : ℕ) → target < l.next
      → IsLeastOf (HasLed l slots node value target) (onward_by l.domain slots before) (weight_at marks target) (step_at marks target)

-- a step from a node, by one of the values before this one
pub record HasLedOn (l : Level) (slots : Slots) (node value : ℕ) (step : Step) : Type 0 where
  pub of_slots : IsOf slots step
  pub leads : edge l node step.value ≡ Some step.node
  pub past : step.value < value

-- the nodes before this one have the least of what leads on from them, and the others have nothing
pub record AreTailsSoFar (l : Level) (slots : Slots) (after : Marks) (node : ℕ) (marks : Marks) : Type 0 where
  pub nodes : length marks.weights ≡ l.size
  pub steps : length marks.steps ≡ l.size
  pub limit : marks.limit ≡ after.limit * l.domain
  pub least : (source : ℕ) → source < node → source < l.size
      → IsLeastOf (HasLedOn l slots source slots.values.end) (backward_by slots after) (weight_at marks source) (step_at marks source)
  pub rest : (source : ℕ) → node ≤ source → weight_at marks source ≡ None

-- the next layer, whose ranks are made of these or of others that order as these do
abbrev pub AreNextHeadsOf : Level → Option ℕ → List CostPair → Marks → Marks → Type 0
AreNextHeadsOf l chosen row before marks = (anew : Marks) × AreRanksAnew before anew × AreNextHeads l chosen row anew marks

abbrev pub AreNextTailsOf : Level → Option ℕ → List CostPair → Marks → Marks → Type 0
AreNextTailsOf l chosen row after marks = (anew : Marks) × AreRanksAnew after anew × AreNextTails l chosen row anew marks
