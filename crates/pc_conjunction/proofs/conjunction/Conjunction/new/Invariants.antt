use Rattle.pc_conjunction.proofs.NewLemmas.{MadeLast}
use Rattle.pc_conjunction.proofs.conjunction.Conjunction.new.Given as goal

abbrev pub invariant-loop-place : goal.invariant-loop-place
invariant-loop-place l = MadeLast l.domains l.place l.layers
