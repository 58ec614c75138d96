use Rattle.pc_conjunction.proofs.ReachedLemmas.{Reaching}
use Rattle.pc_conjunction.proofs.reached.reached_below.Given as goal

abbrev pub invariant-loop-column : goal.invariant-loop-column
invariant-loop-column l = Reaching l.marks l.columns l.count l.column-index l.below.items
