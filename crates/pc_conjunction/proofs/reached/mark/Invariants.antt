use Rattle.pc_conjunction.proofs.ReachedLemmas.{Marking}
use Rattle.pc_conjunction.proofs.reached.mark.Given as goal

abbrev pub invariant-loop-place : goal.invariant-loop-place
invariant-loop-place l = Marking l.marks l.column l.place l.fn.below l.below
