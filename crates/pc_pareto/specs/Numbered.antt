-- Ranks that are numbered anew.
use Rattle.std.specs.Prelude.{◌≡◌, ℕ, ◌<◌, ◌≤◌, nat_lt, count_by, List, [], length, map, slice_index_or, Contains}
use Rattle.pc_pareto.specs.declared.front_item.FrontItem.{FrontItem}
use Rattle.pc_pareto.specs.declared.limits.TheConstants.{MOST_RANKS}

-- an item with another rank
abbrev pub with_rank : (ℕ → ℕ) → FrontItem → FrontItem
with_rank number item = record {
  first = item.first;
  second = item.second;
  back = record { node = item.back.node; value = item.back.value; place = item.back.place; rank = number item.back.rank };
}

-- how many of some ranks are less than one
abbrev pub count_below : List ℕ → ℕ → ℕ
count_below ranks rank = count_by (λ other. nat_lt other rank) ranks

-- the fronts of a layer with other ranks, which compare as before and are below a bound
pub record IsNumbered (stage numbered : List (List FrontItem)) (bound : ℕ) : Type 0 where
  pub number : ℕ → ℕ
  pub count : length numbered ≡ length stage
  pub items : (node : ℕ) → slice_index_or numbered node [] ≡ map (with_rank number) (slice_index_or stage node [])
  pub compare : (node other_node : ℕ) (x y : FrontItem) → Contains (slice_index_or stage node []) x → Contains (slice_index_or stage other_node []) y
      → nat_lt (number x.back.rank) (number y.back.rank) ≡ nat_lt x.back.rank y.back.rank
  pub below : (node : ℕ) (x : FrontItem) → Contains (slice_index_or stage node []) x → number x.back.rank < bound
  pub small : bound ≤ MOST_RANKS
