-- Variables whose values are given one after the other.
use Rattle.std.specs.Prelude.{◌≡◌, List, ◌++◌, map, Option}
use Rattle.std.specs.Option.{option_to_list}
use Rattle.pc_file.specs.declared.catalogue.Catalogue.{Catalogue}
use Rattle.pc_file.specs.declared.variable.Variable.{Variable}
use Rattle.pc_file.specs.Limits.{variable_names, value_names}

-- those whose values are all given, and the one whose values are being given
pub record GivenVariables : Type 0 where
  pub closed : List Variable
  pub open_variable : Option Variable

-- a catalogue has the names of all variables, and those of the values of each but the open one
pub record AreIndexed (names : Catalogue) (closed : List Variable) (open_variable : Option Variable) : Type 0 where
  pub variables_are : names.variables ≡ variable_names (closed ++ option_to_list open_variable)
  pub values_are : names.values ≡ map value_names closed
