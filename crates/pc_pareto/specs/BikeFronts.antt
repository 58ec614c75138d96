-- The front of the bikes, and items offered to a front.
use Rattle.std.specs.Prelude.{ℕ, pos, List, [], ◌∷◌, map}
use Rattle.pc_diagram.specs.declared.costs.CostPair.{CostPair}
use Rattle.pc_diagram.specs.Bike.{bike_costs, bikes, pair}
use Rattle.pc_diagram.specs.Costs.{cost_pair}
use Rattle.pc_pareto.specs.declared.front_item.FrontItem.{FrontItem}

-- the pairs of all bikes
abbrev pub bike_pairs : List CostPair
bike_pairs = map (cost_pair bike_costs) bikes

-- the cheap bike that takes three days, and a dearer one that takes two
abbrev pub bike_front : List CostPair
bike_front = pair 380 3 ∷ pair 580 2 ∷ []

-- an item of this pair, whose path has this rank
abbrev pub ranked : ℕ → ℕ → ℕ → FrontItem
ranked price days rank =
    record { first = pos price; second = pos days; back = record { node = 0; value = 0; place = 0; rank = rank } }

-- four items, of which the last has the pair of the second and a greater rank
abbrev pub offered_items : List FrontItem
offered_items = ranked 580 2 4 ∷ ranked 380 3 0 ∷ ranked 420 3 2 ∷ ranked 380 3 1 ∷ []

-- what a front keeps of them
abbrev pub kept_items : List FrontItem
kept_items = ranked 380 3 0 ∷ ranked 580 2 4 ∷ []
