-- Items of fronts: pairs of costs, each with the step back that leads to it.
use Rattle.std.specs.Prelude.{◌≡◌, nat_lt, List, map, filter, All, Contains, Bool, true, ◌&&◌, ◌||◌, not, Option, Some, int_lt}
use Rattle.pc_diagram.specs.declared.costs.CostPair.{CostPair}
use Rattle.pc_diagram.specs.Best.{first_best}
use Rattle.pc_diagram.specs.Costs.{is_cheaper}
use Rattle.pc_pareto.specs.declared.front_item.FrontItem.{FrontItem}
use Rattle.pc_pareto.specs.Front.{is_at_most, Falls}

-- the two costs of an item
abbrev pub pair_of : FrontItem → CostPair
pair_of item = record { first = item.first; second = item.second }

-- an item makes another needless: its pair is below the other's, or it is equal and the rank is no greater
abbrev pub covers : FrontItem → FrontItem → Bool
covers item other =
    is_at_most (pair_of item) (pair_of other)
    && (not (is_at_most (pair_of other) (pair_of item)) || not (nat_lt other.back.rank item.back.rank))

-- an item comes before another: its pair is cheaper, or equal and its rank is less
abbrev pub precedes : FrontItem → FrontItem → Bool
precedes item other =
    is_cheaper (pair_of item) (pair_of other)
    || (not (is_cheaper (pair_of other) (pair_of item)) && nat_lt item.back.rank other.back.rank)

-- the second cost of an item isn't below that of another
abbrev pub is_past : FrontItem → FrontItem → Bool
is_past item kept = not (int_lt item.second kept.second)

-- some item of a list makes this one needless
abbrev pub IsCovered : List FrontItem → FrontItem → Type 0
IsCovered items item = (other : FrontItem) × Contains items other × (covers other item ≡ true)

-- the front of a list of items: its pairs fall, its items are among those of the list, and each of these is covered
pub record IsFrontOf (items kept : List FrontItem) : Type 0 where
  pub falls : Falls (map pair_of kept)
  pub among : All (Contains items) kept
  pub covered : All (IsCovered kept) items

-- items that are taken of others and cover all of these
pub record IsReduced (items left : List FrontItem) : Type 0 where
  pub among : All (Contains items) left
  pub covered : All (IsCovered left) items

-- one item's rank is less than another's
abbrev pub has_less_rank : FrontItem → FrontItem → Bool
has_less_rank item other = nat_lt item.back.rank other.back.rank

-- an item has this pair
abbrev pub has_pair : CostPair → FrontItem → Bool
has_pair pair item = is_at_most (pair_of item) pair && is_at_most pair (pair_of item)

-- of the items of a list with this pair, the one of least rank, of equal ranks the first
abbrev pub best_of_pair : List FrontItem → CostPair → Option FrontItem
best_of_pair items pair = first_best has_less_rank (filter (has_pair pair) items)

-- the front of items that were offered one after the other: of each of its pairs the item of least rank, of equal ranks the
-- one that was offered first
pub record IsFrontOfOffered (offered kept : List FrontItem) : Type 0 where
  pub front : IsFrontOf offered kept
  pub best : All (λ item. best_of_pair offered (pair_of item) ≡ Some item) kept
