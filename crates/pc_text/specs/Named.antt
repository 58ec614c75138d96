-- Files whose names are names.
use Rattle.std.specs.Prelude.{Bool, ◌&&◌}
use Rattle.std.specs.List.{list_all}
use Rattle.pc_names.specs.Name.{is_name}
use Rattle.pc_file.specs.Limits.{Contents}
use Rattle.pc_print.specs.Nameable.{is_named}

-- the names of costs, variables and values are spelled as names
abbrev pub has_names : Contents → Bool
has_names file = list_all is_name file.costs && list_all is_named file.variables
