-- The layers of fronts that stay where a choice changes.
use Rattle.std.specs.Prelude.{◌≡◌, ℕ, ◌+◌, List, [], ◌∷◌, ◌++◌, length, take, slice_index_or}
use Rattle.std.specs.List.{sum_by}
use Rattle.pc_pareto.specs.declared.front_item.FrontItem.{FrontItem}
use Rattle.pc_pareto.specs.Numbered.{IsNumbered}

-- the layers up to a distance, the last with ranks numbered anew, a bound on these, and how many pairs there are
pub record IsKept (stages : List (List (List FrontItem))) (distance : ℕ) (kept : List (List (List FrontItem))) (limit total : ℕ) : Type 0 where
  pub last : List (List FrontItem)
  pub layers : kept ≡ take distance stages ++ last ∷ []
  pub numbered : IsNumbered (slice_index_or stages distance []) last limit
  pub total_is : total ≡ sum_by (sum_by length) (take (distance + 1) stages)
