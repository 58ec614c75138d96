-- The slots of a variable: what each makes of a path that is kept on one side of it.
use Rattle.std.specs.Prelude.{◌≡◌, ◌≢◌, ℕ, ◌+◌, ◌*◌, ◌<◌, nat_lt, List, length, All, true, false, slice_index_or, Option, Some, None, option_map}
use Rattle.pc_diagram.specs.declared.costs.CostPair.{CostPair}
use Rattle.pc_diagram.specs.declared.weight.Ranked.{Ranked}
use Rattle.pc_diagram.specs.Costs.{pair_at, IsSum}
use Rattle.pc_diagram.specs.Levels.{Level, edge}
use Rattle.pc_diagram.specs.NodePaths.{is_allowed}
use Rattle.pc_diagram.specs.Weight.{is_less, plus_pair}
use Rattle.pc_labels.specs.declared.step.Step.{Step}
use Rattle.pc_labels.specs.Marks.{Marks, IsBelow, weight_at}

-- a path that goes on by a value: it costs what the value costs more, and ranks of paths that do so order by what was before
-- and then by the value
abbrev pub going_on : ℕ → List CostPair → ℕ → Ranked → Ranked
going_on domain row value r = record { pair = plus_pair r.pair (pair_at row value); rank = r.rank * domain + value }

-- a path that comes from a value: ranks order by the value and then by what comes after
abbrev pub coming_from : ℕ → List CostPair → ℕ → Ranked → Ranked
coming_from limit row value r = record { pair = plus_pair r.pair (pair_at row value); rank = r.rank + value * limit }

-- what slots offer: the step of each is the node of the layer that has paths, and the value
abbrev pub onward : ℕ → List CostPair → Marks → Step → Option Ranked
onward domain row marks step = option_map (going_on domain row step.value) (weight_at marks step.node)

abbrev pub backward : List CostPair → Marks → Step → Option Ranked
backward row marks step = option_map (coming_from marks.limit row step.value) (weight_at marks step.node)

-- the slots that lead to a node: an edge of a node before it by a value that choices allow
pub record LeadsTo (l : Level) (chosen : Option ℕ) (node : ℕ) (step : Step) : Type 0 where
  pub before : step.node < l.size
  pub value : step.value < l.domain
  pub allowed : is_allowed chosen step.value ≡ true
  pub leads : edge l step.node step.value ≡ Some node

-- the slots that lead on from a node
pub record LeadsFrom (l : Level) (chosen : Option ℕ) (node : ℕ) (step : Step) : Type 0 where
  pub value : step.value < l.domain
  pub allowed : is_allowed chosen step.value ≡ true
  pub leads : edge l node step.value ≡ Some step.node

-- the weight of a step that is the least of those that steps offer, or none where none offers any
pub record IsLeastOf (Offers : Step → Type 0) (offer : Step → Option Ranked) (weight : Option Ranked) (step : Step) : Type 0 where
  pub offered : weight ≢ None → Offers step × (offer step ≡ weight)
  pub least : (other : Step) → Offers other → is_less (offer other) weight ≡ false

-- each node of the next layer has the least of what leads to it
pub record AreNextHeads (l : Level) (chosen : Option ℕ) (row : List CostPair) (before marks : Marks) : Type 0 where
  pub nodes : length marks.weights ≡ l.next
  pub ranks : All (IsBelow before.limit) before.weights
  pub least : (node : ℕ) → node < l.next
      → IsLeastOf (LeadsTo l chosen node) (onward l.domain row before) (weight_at marks node) (slice_index_or marks.steps node (record { node = 0; value = 0 }))

-- each node of a layer has the least of what leads on from it
pub record AreNextTails (l : Level) (chosen : Option ℕ) (row : List CostPair) (after marks : Marks) : Type 0 where
  pub nodes : length marks.weights ≡ l.size
  pub ranks : All (IsBelow after.limit) after.weights
  pub least : (node : ℕ) → node < l.size
      → IsLeastOf (LeadsFrom l chosen node) (backward row after) (weight_at marks node) (slice_index_or marks.steps node (record { node = 0; value = 0 }))

-- other ranks that compare as the ranks before did, with the same costs
pub record AreRanksAnew (old new : Marks) : Type 0 where
  pub nodes : length new.weights ≡ length old.weights
  pub pairs : (node : ℕ) → option_map (λ r. r.pair) (weight_at new node) ≡ option_map (λ r. r.pair) (weight_at old node)
  pub order : (node other : ℕ) → (r s : Ranked) → (a b : Ranked) → weight_at old node ≡ Some r → weight_at new node ≡ Some a → weight_at old other ≡ Some s → weight_at new other ≡ Some b
      → nat_lt a.rank b.rank ≡ nat_lt r.rank s.rank

-- each path may go on by each value within the sums that costs come to
abbrev pub HasRoom : List (Option Ranked) → List CostPair → Type 0
HasRoom weights row = (node value : ℕ) → (r : Ranked) → slice_index_or weights node None ≡ Some r → IsSum (plus_pair r.pair (pair_at row value)).first × IsSum (plus_pair r.pair (pair_at row value)).second
