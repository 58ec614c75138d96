use Rattle.std.proofs.Common.{◌≡◌}
use Rattle.pc_rules.specs.Naming.{value_at, values_at}
use Rattle.pc_rules.proofs.ParsedLemmas.{with_front}
use Rattle.pc_rules.proofs.naming.values_at.Given as goal

abbrev pub invariant-loop-word : goal.invariant-loop-word
invariant-loop-word l = values_at l.names l.variable l.words ≡ with_front (value_at l.names l.variable) l.words l.word-index l.positions
