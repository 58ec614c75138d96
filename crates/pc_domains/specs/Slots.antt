-- How many slots variables have: one for each node and value.
use Rattle.std.specs.Prelude.{ℕ, zero, suc, ◌+◌, ◌-◌, ◌*◌, length, slice_index}
use Rattle.pc_diagram.specs.declared.raw_diagram.RawDiagram.{RawDiagram}
use Rattle.pc_diagram.specs.declared.side.Side.{Side}
use Rattle.pc_diagram.specs.declared.side.Side.TheVariants.{Heads, Tails}

-- how many slots a variable has
abbrev pub slots_of : RawDiagram → ℕ → ℕ
slots_of raw variable = slice_index raw.domains variable * slice_index raw.sizes variable

-- how many slots the first so many variables have
abbrev pub slots_before : RawDiagram → ℕ → ℕ
slots_before raw zero = 0
slots_before raw (suc count) = slots_before raw count + slots_of raw count

-- how many slots the variables have that lie on the far side of a variable, seen from an end, with its own
abbrev pub slots_again : Side → RawDiagram → ℕ → ℕ
slots_again Heads raw variable = slots_before raw (length raw.domains) - slots_before raw variable
slots_again Tails raw variable = slots_before raw (variable + 1)
