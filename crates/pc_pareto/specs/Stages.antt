-- How the fronts of a layer are made of those of the layer before, seen from the end of a side.
use Rattle.std.specs.Prelude.{◌≡◌, ℕ, ◌+◌, ◌*◌, ◌<◌, ◌+ℤ◌, List, [], ◌∷◌, length, map, slice_index_or}
use Rattle.std.specs.List.{flat_map, sum_by}
use Rattle.pc_diagram.specs.declared.costs.CostPair.{CostPair}
use Rattle.pc_diagram.specs.declared.side.Side.{Side}
use Rattle.pc_diagram.specs.declared.side.Side.TheVariants.{Heads, Tails}
use Rattle.pc_diagram.specs.Costs.{pair_at}
use Rattle.pc_pareto.specs.declared.arrival.Arrival.{Arrival}
use Rattle.pc_pareto.specs.declared.front_item.FrontItem.{FrontItem}
use Rattle.pc_pareto.specs.Front.{front}
use Rattle.pc_pareto.specs.Items.{pair_of, IsFrontOf}

-- the rank of a path with one value more, where the scale is above all values of a head, or above all ranks of tails
abbrev pub ranked : Side → ℕ → ℕ → ℕ → ℕ
ranked Heads scale rank value = rank * scale + value
ranked Tails scale rank value = value * scale + rank

-- the sum of two pairs
abbrev pub plus : CostPair → CostPair → CostPair
plus pair other = record { first = pair.first +ℤ other.first; second = pair.second +ℤ other.second }

-- an item at a place of the node that an edge comes from, along the edge
abbrev pub stepped : Side → ℕ → List CostPair → Arrival → ℕ → FrontItem → FrontItem
stepped side scale row arrival place item = record {
  first = item.first +ℤ (pair_at row arrival.value).first;
  second = item.second +ℤ (pair_at row arrival.value).second;
  back = record { node = arrival.node; value = arrival.value; place = place; rank = ranked side scale item.back.rank arrival.value };
}

-- the items from a place on, along an edge
abbrev pub run : Side → ℕ → List CostPair → Arrival → ℕ → List FrontItem → List FrontItem
run side scale row arrival place [] = []
run side scale row arrival place (item ∷ items) =
    stepped side scale row arrival place item ∷ run side scale row arrival (place + 1) items

-- the items along all edges into a node
abbrev pub candidates : Side → ℕ → List CostPair → List (List FrontItem) → List Arrival → List FrontItem
candidates side scale row before arrivals =
    flat_map (λ arrival. run side scale row arrival 0 (slice_index_or before arrival.node [])) arrivals

-- the fronts of a layer: each of what comes along the edges into its node
pub record AreStageOf (side : Side) (scale : ℕ) (row : List CostPair) (before : List (List FrontItem)) (arrivals : List (List Arrival)) (stage : List (List FrontItem)) : Type 0 where
  pub count : length stage ≡ length arrivals
  pub fronts : (node : ℕ) → node < length arrivals
      → IsFrontOf (candidates side scale row before (slice_index_or arrivals node [])) (slice_index_or stage node [])

-- how many pairs the front of what comes along edges has
abbrev pub front_size : Side → ℕ → List CostPair → List (List FrontItem) → List Arrival → ℕ
front_size side scale row before arrivals = length (front (map pair_of (candidates side scale row before arrivals)))

-- how many pairs the fronts of a layer have, by the edges into its nodes
abbrev pub stage_size : Side → ℕ → List CostPair → List (List FrontItem) → List (List Arrival) → ℕ
stage_size side scale row before arrivals = sum_by (front_size side scale row before) arrivals
