-- Bounds on costs.
use Rattle.std.specs.Prelude.{ℤ, Option, Some, None, Bool, true, ◌&&◌, int_le}
use Rattle.pc_diagram.specs.declared.bounds.Bounds.{Bounds}
use Rattle.pc_diagram.specs.declared.costs.CostPair.{CostPair}
use Rattle.pc_diagram.specs.declared.which.Which.{Which}
use Rattle.pc_diagram.specs.declared.which.Which.TheVariants.{First, Second}

-- no bound is set
abbrev pub no_bounds : Bounds
no_bounds = record { first = None; second = None }

-- a bound, if it is set, is at least the cost
abbrev pub allows : Option ℤ → ℤ → Bool
allows None z = true
allows (Some bound) z = int_le z bound

-- each bound that is set is at least that cost
abbrev pub allows_pair : Bounds → CostPair → Bool
allows_pair bounds pair = allows bounds.first pair.first && allows bounds.second pair.second

-- the bound on one of the costs, if it is set
abbrev pub bound_on : Which → Bounds → Option ℤ
bound_on First bounds = bounds.first
bound_on Second bounds = bounds.second

-- with this bound on one of the costs, or without one; the other stays
abbrev pub with_bound_on : Which → Option ℤ → Bounds → Bounds
with_bound_on First bound bounds = record { first = bound; second = bounds.second }
with_bound_on Second bound bounds = record { first = bounds.first; second = bound }
