use Rattle.std.proofs.Common.{◌≡◌, take, Some}
use Rattle.std.specs.List.{flat_map}
use Rattle.pc_file.specs.PrintedForm.{variable_lines}
use Rattle.pc_file.specs.PrintedSize.{with_lines}
use Rattle.pc_file.proofs.printed_lines.with_variables.Given as goal

abbrev pub invariant-loop-variable : goal.invariant-loop-variable
invariant-loop-variable l = with_lines l.initial.bytes (flat_map (variable_lines l.costs) (take l.variable-index l.variables)) ≡ Some l.bytes
