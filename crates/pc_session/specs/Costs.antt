-- The costs that bounds are on.
use Rattle.std.specs.Prelude.{ℕ, ◌<◌, ℤ, length, Option, Some, None}
use Rattle.pc_diagram.specs.declared.bounds.Bounds.{Bounds}
use Rattle.pc_diagram.specs.declared.which.Which.{Which}
use Rattle.pc_diagram.specs.declared.which.Which.TheVariants.{First, Second}
use Rattle.pc_file.specs.Contents.{Contents}

-- where a cost stands among those of a file
abbrev pub place_of : Which → ℕ
place_of First = 0
place_of Second = 1

-- a bound, if it is set, is on a cost that the file has
abbrev pub IsOnCost : Contents → Which → Option ℤ → Type 0
IsOnCost file which None = Unit {0}
IsOnCost file which (Some most) = place_of which < length file.costs

-- each bound that is set is on a cost that the file has
abbrev pub AreOnCosts : Contents → Bounds → Type 0
AreOnCosts file bounds = IsOnCost file First bounds.first × IsOnCost file Second bounds.second
