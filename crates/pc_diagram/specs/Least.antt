-- The least cost of words.
use Rattle.std.specs.Prelude.{ℕ, ℤ, List, [], ◌∷◌, map, Option, None, Some, int_le, if◌then◌else◌}
use Rattle.pc_diagram.specs.declared.costs.CostPair.{CostPair}
use Rattle.pc_diagram.specs.declared.which.Which.{Which}
use Rattle.pc_diagram.specs.Costs.{cost}

-- the lesser of a number and of another, if there is another
abbrev pub lesser : ℤ → Option ℤ → ℤ
lesser z None = z
lesser z (Some other) = if int_le z other then z else other

-- the least of some numbers, if there are any
abbrev pub least : List ℤ → Option ℤ
least [] = None
least (z ∷ zs) = Some (lesser z (least zs))

-- the least of a cost over some words, if there are any
abbrev pub least_cost : Which → List (List CostPair) → List (List ℕ) → Option ℤ
least_cost which costs words = least (map (cost costs which) words)
