-- How many variables the generator's file may have.
use Rattle.std.specs.Prelude.{ℕ, nat_le, Bool, ◌&&◌, if◌then◌else◌, Option, Some, None}
use Rattle.pc_diagram.specs.declared.limits.TheConstants.{MOST_VARIABLES}
use Rattle.pc_generator.specs.declared.limits.TheConstants.{LEAST_VARIABLES}

-- from 2 to 64
abbrev pub is_size : ℕ → Bool
is_size number = nat_le LEAST_VARIABLES number && nat_le number MOST_VARIABLES

-- the number, if it is a size
abbrev pub size_of : ℕ → Option ℕ
size_of number = if is_size number then Some number else None
