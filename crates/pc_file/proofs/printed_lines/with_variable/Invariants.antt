use Rattle.std.proofs.Common.{◌≡◌, map, take, Some}
use Rattle.pc_file.specs.PrintedForm.{value_line}
use Rattle.pc_file.specs.PrintedSize.{with_lines}
use Rattle.pc_file.proofs.printed_lines.with_variable.Given as goal

abbrev pub invariant-loop-value : goal.invariant-loop-value
invariant-loop-value l = with_lines l.initial.bytes (map (value_line l.costs) (take l.value-index l.value-items)) ≡ Some l.bytes
