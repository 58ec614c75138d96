-- Positions of variables and values by their names.
use Rattle.std.specs.Prelude.{◌≡◌, ℕ, map, List, Option, option_and_then, slice_get, position}
use Rattle.pc_file.specs.declared.catalogue.Catalogue.{Catalogue}
use Rattle.pc_file.specs.declared.variable.Variable.{Variable}
use Rattle.pc_file.specs.Limits.{variable_names, value_names}
use Rattle.pc_names.specs.Spelling.{same_spelling}

-- where a variable of this name stands
abbrev pub variable_position : Catalogue → List ℕ → Option ℕ
variable_position names name = position (same_spelling name) names.variables

-- where a value of this name stands among those of a variable
abbrev pub value_position : Catalogue → ℕ → List ℕ → Option ℕ
value_position names variable name = option_and_then (position (same_spelling name)) (slice_get names.values variable)

-- the catalogue has the names of these variables and of their values
pub record Indexes (names : Catalogue) (variables : List Variable) : Type 0 where
  pub variables_are : names.variables ≡ variable_names variables
  pub values_are : names.values ≡ map value_names variables
