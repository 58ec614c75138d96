use Rattle.std.proofs.Common.{refl, ap}
use Rattle.std.specs.Prelude.{option_and_then, position}
use Rattle.pc_names.proofs.Places.{first_place_of_name}
use Rattle.pc_names.specs.Spelling.{same_spelling}
use Rattle.pc_file.specs.Limits.{variable_names, value_names}
use Rattle.pc_file.specs.Positions.{variable_named, value_named}
use Rattle.pc_file.proofs.laws.names_have_first_places.Goals as goal

pub returns-clause-variables : goal.returns-clause-variables
returns-clause-variables c file name = first_place_of_name (variable_names file.variables) name (variable_named file name) refl

pub returns-clause-values : goal.returns-clause-values
returns-clause-values c file place variable name at =
    first_place_of_name (value_names variable) name (value_named file place name) (ap (option_and_then (λ v. position (same_spelling name) (value_names v))) at)
