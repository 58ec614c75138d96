-- The least costs of a layer's labels, and the nodes that can't lead to a lesser way than one that was found.
use Rattle.std.specs.Prelude.{◌≡◌, ℕ, ◌<◌, length, Bool, true, false, if◌then◌else◌, Option, Some, None, IfSome, option_map}
use Rattle.pc_diagram.specs.declared.costs.CostPair.{CostPair}
use Rattle.pc_diagram.specs.declared.weight.Ranked.{Ranked}
use Rattle.pc_diagram.specs.Costs.{is_cheaper}
use Rattle.pc_diagram.specs.Weight.{is_less as is_less_weight, plus_pair}
use Rattle.pc_labels.specs.Kept.{KeptPaths, kept_at, weight}
use Rattle.pc_domains.specs.declared.ends.Ends.{Ends}
use Rattle.pc_domains.specs.declared.ends.Ends.TheVariants.{Least, Pairs}
use Rattle.pc_domains.specs.declared.label_way.LabelWay.{LabelWay}
use Rattle.pc_domains.specs.Joins.{IsSumPair, is_less}
use Rattle.pc_domains.specs.LabelWays.{AreSummedLabels}

-- no path that is kept of a node of a layer is cheaper than these costs
pub record IsFloor (labels : KeptPaths) (layer : ℕ) (floor : CostPair) : Type 0 where
  pub sums : IsSumPair floor
  pub none_cheaper : (node : ℕ) → IfSome (option_map weight (kept_at labels layer node)) (λ r. is_cheaper r.pair floor ≡ false)

-- the same of an end, where costs are told and labels are kept
abbrev pub IsEndFloor : Ends → ℕ → Option CostPair → Type 0
IsEndFloor (Least labels) layer floor = IfSome floor (IsFloor labels layer)
IsEndFloor (Pairs fronts) layer floor = Unit {0}

-- labels of an end have a layer of so many nodes, whose costs are sums
abbrev pub HasSummedLayer : Ends → ℕ → ℕ → Type 0
HasSummedLayer (Least labels) layer count = (layer < length labels.layers) × AreSummedLabels (length labels.layers) layer count labels
HasSummedLayer (Pairs fronts) layer count = Unit {0}

-- a head with a tail of the least costs is less than the way so far; so is any head where nothing is known
abbrev pub can_win : CostPair → Option Ranked → Option CostPair → Option LabelWay → Bool
can_win price None floor least = false
can_win price (Some head) None least = true
can_win price (Some head) (Some floor) None = true
can_win price (Some head) (Some floor) (Some way) = is_less (record { pair = plus_pair head.pair (plus_pair price floor); rank = head.rank }) way.ranked

-- the lesser of two weights
abbrev pub lesser : Option Ranked → Option Ranked → Option Ranked
lesser weight other = if is_less_weight other weight then other else weight

-- of the labels of the first so many nodes none is less than this one, which is one of them, or none
pub record IsLeastLabel (labels : KeptPaths) (layer count : ℕ) (least : Option Ranked) : Type 0 where
  pub none_less : (node : ℕ) → node < count → is_less_weight (option_map weight (kept_at labels layer node)) least ≡ false
  pub sums : IfSome least (λ r. IsSumPair r.pair)
