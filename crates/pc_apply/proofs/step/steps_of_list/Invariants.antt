use Rattle.pc_apply.proofs.ListLemmas.{Stepped}
use Rattle.pc_apply.proofs.step.steps_of_list.Given as goal

abbrev pub invariant-loop-value : goal.invariant-loop-value
invariant-loop-value l = Stepped l.store l.layer l.sets l.value l.fn.below l.below l.steps.items
