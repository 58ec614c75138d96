use Rattle.std.proofs.Common.{◌≡◌, map, take, Some}
use Rattle.pc_file.specs.PrintedForm.{cost_line}
use Rattle.pc_file.specs.PrintedSize.{with_lines}
use Rattle.pc_file.proofs.printed_lines.with_costs.Given as goal

abbrev pub invariant-loop-name : goal.invariant-loop-name
invariant-loop-name l = with_lines l.initial.bytes (map cost_line (take l.name-index l.costs)) ≡ Some l.bytes
