use Rattle.std.proofs.Common.{◌≡◌, map, take, true}
use Rattle.std.specs.List.{list_all}
use Rattle.pc_file.specs.Limits.{values_differ, value_names}
use Rattle.pc_file.proofs.catalogue.names_of_all.Given as goal

abbrev pub invariant-loop-variable : goal.invariant-loop-variable
invariant-loop-variable l = record {
  read : l.all ≡ map value_names (take l.variable-index l.variables);
  differ : list_all values_differ (take l.variable-index l.variables) ≡ true;
}
