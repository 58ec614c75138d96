-- The names of values.
use Rattle.std.specs.Prelude.{ℕ, List, Option, option_and_then, slice_get}
use Rattle.std.specs.Option.{option_map}
use Rattle.pc_file.specs.declared.variable.Variable.{Variable}

-- the name of a value of a variable, by their positions
abbrev pub value_name : List Variable → ℕ → ℕ → Option (List ℕ)
value_name variables variable value = option_and_then (λ v. option_map (λ a. a.name) (slice_get v.values value)) (slice_get variables variable)

-- the name of the value that a word takes at a variable
abbrev pub taken_name : List Variable → List ℕ → ℕ → Option (List ℕ)
taken_name variables word variable = option_and_then (value_name variables variable) (slice_get word variable)
