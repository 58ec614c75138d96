-- Edges of four bytes.
use Rattle.std.specs.Prelude.{ℕ, ◌==◌, if◌then◌else◌, Option, None, Some}
use Rattle.pc_diagram.specs.declared.table.TheConstants.{NO_EDGE}

-- the edge that a number stands for: the greatest of 32 bits stands for none
abbrev pub edge_of : ℕ → Option ℕ
edge_of number = if number == NO_EDGE then None else Some number
