-- What keeps the numbers of items small.
use Rattle.std.specs.Prelude.{◌≡◌, ℕ, ◌<◌, ◌≤◌, List, length, All}
use Rattle.pc_diagram.specs.declared.side.Side.{Side}
use Rattle.pc_diagram.specs.declared.side.Side.TheVariants.{Heads, Tails}
use Rattle.pc_diagram.specs.declared.limits.TheConstants.{MOST_VALUES}
use Rattle.pc_diagram.specs.Costs.{IsSum}
use Rattle.pc_pareto.specs.declared.front_item.FrontItem.{FrontItem}
use Rattle.pc_pareto.specs.declared.limits.TheConstants.{MOST_LABELS, MOST_RANKS}

-- the costs of an item are sums of the costs of a word, and its rank is below a bound
pub record IsSmall (limit : ℕ) (item : FrontItem) : Type 0 where
  pub first : IsSum item.first
  pub second : IsSum item.second
  pub rank : item.back.rank < limit

-- a node has at most 1,048,576 items, all small
pub record IsSmallNode (limit : ℕ) (items : List FrontItem) : Type 0 where
  pub few : length items ≤ MOST_LABELS
  pub small : All (IsSmall limit) items

-- the scale is the number of values for heads, and the bound of the ranks for tails
abbrev pub IsScaleOf : Side → ℕ → ℕ → ℕ → Type 0
IsScaleOf Heads scale limit domain = scale ≡ domain
IsScaleOf Tails scale limit domain = scale ≡ limit

-- a scale that ranks can be multiplied by
abbrev pub IsScaleWithin : Side → ℕ → Type 0
IsScaleWithin Heads scale = scale ≤ MOST_VALUES
IsScaleWithin Tails scale = scale ≤ MOST_RANKS
