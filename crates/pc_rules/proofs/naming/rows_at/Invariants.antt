use Rattle.std.proofs.Common.{◌≡◌}
use Rattle.pc_rules.specs.Naming.{row_at, rows_at}
use Rattle.pc_rules.proofs.ParsedLemmas.{with_front}
use Rattle.pc_rules.proofs.naming.rows_at.Given as goal

abbrev pub invariant-loop-row : goal.invariant-loop-row
invariant-loop-row l = rows_at l.names l.variables l.rows ≡ with_front (row_at l.names l.variables) l.rows l.row-index l.found
