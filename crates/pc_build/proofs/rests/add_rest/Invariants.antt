use Rattle.pc_build.proofs.RestLemmas.{AddedTo}
use Rattle.pc_build.proofs.rests.add_rest.Given as goal

abbrev pub invariant-loop-value : goal.invariant-loop-value
invariant-loop-value l = AddedTo l.row l.value l.fn.rests.items l.rests.items
