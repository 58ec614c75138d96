-- Where the fronts of a diagram have too many pairs.
use Rattle.std.specs.Prelude.{ℕ, List, length, ℤ, Option, None, Some, option_map}
use Rattle.std.specs.Option.{option_or}
use Rattle.pc_diagram.specs.declared.choice.Choice.{Choice}
use Rattle.pc_diagram.specs.declared.costs.CostPair.{CostPair}
use Rattle.pc_diagram.specs.declared.raw_diagram.RawDiagram.{RawDiagram}
use Rattle.pc_diagram.specs.declared.side.Side.{Side}
use Rattle.pc_diagram.specs.declared.side.Side.TheVariants.{Heads, Tails}
use Rattle.pc_pareto.specs.declared.limits.TheConstants.{MOST_LABELS}
use Rattle.pc_pareto.specs.Fronts.{layer_at, limit_at}

-- the layer at which the fronts of a side have more than so many pairs, all in all, counted from the side's end
abbrev pub side_limit : ℕ → RawDiagram → List (List CostPair) → List Choice → Side → Option (Side × ℕ)
side_limit most raw costs choices side = option_map (λ distance. (side, layer_at side (length raw.domains) distance)) (limit_at most side raw costs choices)

-- the first limit of both sides: that of the heads, else that of the tails
abbrev pub label_limit : ℕ → RawDiagram → List (List CostPair) → List Choice → Option (Side × ℕ)
label_limit most raw costs choices = option_or (side_limit most raw costs choices Heads) (side_limit most raw costs choices Tails)

-- the limit of an end of a board: none where the second cost has no bound
abbrev pub end_limit : Side → RawDiagram → List (List CostPair) → List Choice → Option ℤ → Option (Side × ℕ)
end_limit side raw costs choices None = None
end_limit side raw costs choices (Some bound) = side_limit MOST_LABELS raw costs choices side

-- the limit of both ends, the heads first, where they are asked for under a bound
abbrev pub limit_under : RawDiagram → List (List CostPair) → List Choice → Option ℤ → Option (Side × ℕ)
limit_under raw costs choices bound = option_or (end_limit Heads raw costs choices bound) (end_limit Tails raw costs choices bound)
