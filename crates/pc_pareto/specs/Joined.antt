-- Values that are taken from one end of a word on.
use Rattle.std.specs.Prelude.{ℕ, List, ◌++◌, reverse}
use Rattle.pc_diagram.specs.declared.side.Side.{Side}
use Rattle.pc_diagram.specs.declared.side.Side.TheVariants.{Heads, Tails}

-- a word of which these values were taken, and the rest is left: of heads the last values first
abbrev pub joined : Side → List ℕ → List ℕ → List ℕ
joined Heads values rest = rest ++ reverse values
joined Tails values rest = values ++ rest
