-- Variables whose names can stand in rules.
use Rattle.std.specs.Prelude.{◌≡◌, ◌≤◌, Bool, true, not, ◌&&◌, List, length}
use Rattle.std.specs.List.{list_all}
use Rattle.pc_names.specs.Name.{is_name}
use Rattle.pc_file.specs.declared.variable.Variable.{Variable}
use Rattle.pc_file.specs.Limits.{is_reserved, is_sized, value_names, names_differ}

-- the names of a variable and of its values are spelled as names
abbrev pub is_named : Variable → Bool
is_named variable = is_name variable.name && list_all is_name (value_names variable)

-- the variable has no name of the rule language
abbrev pub is_free : Variable → Bool
is_free variable = not (is_reserved variable.name)

-- variables as those of a file: their names are names, none is reserved, no two are the same, nor two of values of one variable
pub record Nameable (variables : List Variable) : Type 0 where
  pub at_most : length variables ≤ 64
  pub each_sized : list_all is_sized variables ≡ true
  pub each_named : list_all is_named variables ≡ true
  pub each_free : list_all is_free variables ≡ true
  pub differ : names_differ variables ≡ true
