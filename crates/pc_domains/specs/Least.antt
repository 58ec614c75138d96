-- The least of a cost over the words that fit.
use Rattle.std.specs.Prelude.{◌≡◌, ℕ, ◌<◌, ℤ, ◌≤ℤ◌, List, map, slice_index_or, true, false, Option, None, Some}
use Rattle.pc_diagram.specs.declared.bounds.Bounds.{Bounds}
use Rattle.pc_diagram.specs.declared.costs.CostPair.{CostPair}
use Rattle.pc_diagram.specs.declared.side.Side.{Side}
use Rattle.pc_diagram.specs.declared.which.Which.{Which}
use Rattle.pc_diagram.specs.declared.which.Which.TheVariants.{First, Second}
use Rattle.pc_diagram.specs.Bounds.{allows_pair}
use Rattle.pc_diagram.specs.Costs.{part}
use Rattle.pc_pareto.specs.declared.front_item.FrontItem.{FrontItem}
use Rattle.pc_pareto.specs.Fronts.{no_item}
use Rattle.pc_pareto.specs.Items.{pair_of}
use Rattle.pc_domains.specs.declared.board_fault.BoardFault.{BoardFault}
use Rattle.pc_domains.specs.declared.board_fault.BoardFault.TheVariants.{LabelLimit, NoFit, NoMemory}

-- the bound on the other cost
abbrev pub other_bound : Which → Bounds → Option ℤ
other_bound First bounds = bounds.second
other_bound Second bounds = bounds.first

-- a limit that is told is that one; want of memory may come in any case, and nothing else is told
abbrev pub IsLeastFault : Option (Side × ℕ) → BoardFault → Type 0
IsLeastFault limit (LabelLimit side layer) = limit ≡ Some (side, layer)
IsLeastFault limit NoFit = ⊥
IsLeastFault limit NoMemory = Unit {0}

-- costs and bounds with the first and the second changed about
abbrev pub swapped : CostPair → CostPair
swapped pair = record { first = pair.second; second = pair.first }

abbrev pub swapped_costs : List (List CostPair) → List (List CostPair)
swapped_costs costs = map (map swapped) costs

abbrev pub swapped_bounds : Bounds → Bounds
swapped_bounds bounds = record { first = bounds.second; second = bounds.first }

-- the cost of an item of a front
abbrev pub item_cost : Which → List FrontItem → ℕ → ℤ
item_cost which items place = part which (pair_of (slice_index_or items place no_item))

-- the bounds allow the item at a place
abbrev pub IsWithinAt : Bounds → List FrontItem → ℕ → Type 0
IsWithinAt bounds items place = allows_pair bounds (pair_of (slice_index_or items place no_item)) ≡ true

-- a cost is the least of the first so many items that the bounds allow
pub record IsLeastOf (bounds : Bounds) (which : Which) (items : List FrontItem) (count : ℕ) (cost : ℤ) : Type 0 where
  pub place : ℕ
  pub inside : place < count
  pub within : IsWithinAt bounds items place
  pub is : cost ≡ item_cost which items place
  pub least : (other : ℕ) → other < count → IsWithinAt bounds items other → cost ≤ℤ item_cost which items other

-- the least cost of the first so many items that the bounds allow, if they allow any
abbrev pub IsLeastItem : Bounds → Which → List FrontItem → ℕ → Option ℤ → Type 0
IsLeastItem bounds which items count None = (place : ℕ) → place < count → allows_pair bounds (pair_of (slice_index_or items place no_item)) ≡ false
IsLeastItem bounds which items count (Some cost) = IsLeastOf bounds which items count cost
