-- The names of values.
use Rattle.std.specs.Prelude.{ℕ, List, Option, option_and_then, slice_get}
use Rattle.std.specs.Option.{option_map}
use Rattle.pc_file.specs.declared.variable.Value.{Value}

-- the name of the value at a place among these
abbrev pub name_of : List Value → ℕ → Option (List ℕ)
name_of values value = option_map (λ v. v.name) (slice_get values value)

-- the name of the value that a word takes at a variable with these values
abbrev pub name_at : List Value → List ℕ → ℕ → Option (List ℕ)
name_at values word variable = option_and_then (name_of values) (slice_get word variable)
