-- Which variable, value or cost of a file a name stands for.
use Rattle.std.specs.Prelude.{ℕ, zero, suc, List, Option, option_map, option_and_then, slice_get, position}
use Rattle.pc_diagram.specs.declared.which.Which.{Which}
use Rattle.pc_diagram.specs.declared.which.Which.TheVariants.{First, Second}
use Rattle.pc_names.specs.Spelling.{same_spelling}
use Rattle.pc_file.specs.Limits.{Contents, variable_names, value_names}

-- the position of the first variable of this name
abbrev pub variable_named : Contents → List ℕ → Option ℕ
variable_named file name = position (same_spelling name) (variable_names file.variables)

-- the position of the first value of this name among those of a variable; None also where there is no such variable
abbrev pub value_named : Contents → ℕ → List ℕ → Option ℕ
value_named file variable name = option_and_then (λ v. position (same_spelling name) (value_names v)) (slice_get file.variables variable)

-- which cost stands at a position
abbrev pub cost_at : ℕ → Which
cost_at zero = First
cost_at (suc n) = Second

-- which cost has this name
abbrev pub cost_named : Contents → List ℕ → Option Which
cost_named file name = option_map cost_at (position (same_spelling name) file.costs)
