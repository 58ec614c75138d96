-- Joins of two fronts over an edge.
use Rattle.std.specs.Prelude.{◌≡◌, ℕ, ◌<◌, ℤ, List, length, slice_index_or, Bool, true, false, if◌then◌else◌, Option, None, Some}
use Rattle.pc_diagram.specs.declared.bounds.Bounds.{Bounds}
use Rattle.pc_diagram.specs.declared.costs.CostPair.{CostPair}
use Rattle.pc_diagram.specs.declared.weight.Ranked.{Ranked}
use Rattle.pc_diagram.specs.Bounds.{allows, allows_pair}
use Rattle.pc_diagram.specs.Costs.{IsSum}
use Rattle.pc_diagram.specs.Weight.{is_less_ranked, plus_pair}
use Rattle.pc_pareto.specs.declared.front_item.FrontItem.{FrontItem}
use Rattle.pc_pareto.specs.Fronts.{no_item}
use Rattle.pc_pareto.specs.Items.{pair_of}
use Rattle.pc_domains.specs.declared.join.Join.{Join}

-- two sums of costs of at most 64 variables
pub record IsSumPair (pair : CostPair) : Type 0 where
  pub first : IsSum pair.first
  pub second : IsSum pair.second

-- what two items and a value between them cost, and the rank of the head
abbrev pub joined : CostPair → FrontItem → FrontItem → Ranked
joined price head tail = record { pair = plus_pair (pair_of head) (plus_pair price (pair_of tail)); rank = head.back.rank }

-- the join of the items of two places
abbrev pub joined_at : CostPair → List FrontItem → List FrontItem → ℕ → ℕ → Ranked
joined_at price heads tails head tail = joined price (slice_index_or heads head no_item) (slice_index_or tails tail no_item)

-- one is less than another
abbrev pub is_less : Ranked → Ranked → Bool
is_less = is_less_ranked

-- the lesser of two joins; the one before, where the other is past a bound on the first cost
abbrev pub lesser_of : Option Join → Join → Option Join
lesser_of None join = Some join
lesser_of (Some before) join = if is_less join.ranked before.ranked then Some join else Some before

abbrev pub lesser : Option Join → Join → Option ℤ → Option Join
lesser least join most = if allows most join.ranked.pair.first then lesser_of least join else least

-- of the joins of so many heads that bounds allow one that no other is less than, or none where they allow none
pub record IsLeast (heads tails : List FrontItem) (price : CostPair) (bounds : Bounds) (count : ℕ) (join : Join) : Type 0 where
  pub head_inside : join.head < count
  pub tail_inside : join.tail < length tails
  pub ranked : join.ranked ≡ joined_at price heads tails join.head join.tail
  pub allowed : allows_pair bounds join.ranked.pair ≡ true
  pub least : (head tail : ℕ) → head < count → tail < length tails → allows_pair bounds (joined_at price heads tails head tail).pair ≡ true
      → is_less (joined_at price heads tails head tail) join.ranked ≡ false

abbrev pub IsLeastJoin : List FrontItem → List FrontItem → CostPair → Bounds → ℕ → Option Join → Type 0
IsLeastJoin heads tails price bounds count None =
    (head tail : ℕ) → head < count → tail < length tails → allows_pair bounds (joined_at price heads tails head tail).pair ≡ false
IsLeastJoin heads tails price bounds count (Some join) = IsLeast heads tails price bounds count join
