-- What the variables so far become, and what may be wrong with one more.
use Rattle.std.specs.Prelude.{ℕ, nat_le, Bool, List, [], ◌∷◌, ◌++◌, length, Some, None, option_map}
use Rattle.std.specs.Option.{option_to_list}
use Rattle.std.specs.List.{list_any}
use Rattle.pc_names.specs.Spelling.{same_spelling}
use Rattle.pc_diagram.specs.declared.limits.TheConstants.{MOST_VALUES, MOST_VARIABLES}
use Rattle.pc_rules.specs.declared.kind.Kind.{Kind}
use Rattle.pc_rules.specs.declared.kind.Kind.TheVariants as kind
use Rattle.pc_file.specs.declared.variable.Value.{Value}
use Rattle.pc_file.specs.declared.variable.Variable.{Variable}
use Rattle.pc_file.specs.Limits.{variable_names}
use Rattle.pc_text.specs.GivenVariables.{GivenVariables}
use Rattle.pc_text.specs.Given.{with_value}

abbrev pub all_of : GivenVariables → List Variable
all_of given = given.closed ++ option_to_list given.open_variable

-- the values of each are all given
abbrev pub closed_all : GivenVariables → GivenVariables
closed_all given = record { closed = all_of given; open_variable = None }

-- one variable more, without values
abbrev pub begun : GivenVariables → List ℕ → GivenVariables
begun given name = record { closed = all_of given; open_variable = Some (record { name = name; values = [] }) }

-- one value more of the open variable
abbrev pub with_open_value : Value → GivenVariables → GivenVariables
with_open_value value given = record { closed = given.closed; open_variable = option_map (with_value value) given.open_variable }

-- what may be wrong with one variable more
abbrev pub begin_faults : List Variable → List ℕ → List (Bool × Kind)
begin_faults variables name = (nat_le MOST_VARIABLES (length variables), kind.Size) ∷ (list_any (same_spelling name) (variable_names variables), kind.Repeat) ∷ []

-- what may be wrong with one value more, after values of these names
abbrev pub value_faults : List (List ℕ) → List ℕ → List (Bool × Kind)
value_faults names name = (nat_le MOST_VALUES (length names), kind.Size) ∷ (list_any (same_spelling name) names, kind.Repeat) ∷ []
