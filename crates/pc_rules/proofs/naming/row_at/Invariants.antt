use Rattle.std.proofs.Common.{◌≡◌, length}
use Rattle.std.specs.List.{zip}
use Rattle.pc_rules.specs.Naming.{value_at, row_at}
use Rattle.pc_rules.proofs.ParsedLemmas.{with_front}
use Rattle.pc_rules.proofs.naming.row_at.Given as goal

abbrev pub invariant-loop-variable : goal.invariant-loop-variable
invariant-loop-variable l = row_at l.names l.variables l.words ≡ with_front (λ p. value_at l.names p.0 p.1) (zip l.variables l.words) (length l.yielded) l.positions
