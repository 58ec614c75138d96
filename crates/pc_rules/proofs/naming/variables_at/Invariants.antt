use Rattle.std.proofs.Common.{◌≡◌}
use Rattle.pc_rules.specs.Naming.{variable_at, variables_at}
use Rattle.pc_rules.proofs.ParsedLemmas.{with_front}
use Rattle.pc_rules.proofs.naming.variables_at.Given as goal

abbrev pub invariant-loop-word : goal.invariant-loop-word
invariant-loop-word l = variables_at l.names l.words ≡ with_front (variable_at l.names) l.words l.word-index l.positions
