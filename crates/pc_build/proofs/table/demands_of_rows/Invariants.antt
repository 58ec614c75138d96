use Rattle.std.proofs.Common.{◌≡◌, ◌+◌, ◌≤◌, ℕ, List, length, take, drop}
use Rattle.std.specs.List.{list_any}
use Rattle.pc_file.specs.Rule.{row_fits}
use Rattle.pc_build.specs.Demands.{some_meets}
use Rattle.pc_build.proofs.table.demands_of_rows.Given as goal

abbrev pub invariant-loop-row : goal.invariant-loop-row
invariant-loop-row l = (word : List ℕ) → l.span.first + l.span.count ≤ length word → some_meets l.demands (drop l.span.first word) ≡ list_any (row_fits word l.variables) (take l.row-index l.rows)
