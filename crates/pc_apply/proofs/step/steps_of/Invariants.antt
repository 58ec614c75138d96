use Rattle.pc_apply.proofs.ListLemmas.{AllStepped}
use Rattle.pc_apply.proofs.step.steps_of.Given as goal

abbrev pub invariant-loop-place : goal.invariant-loop-place
invariant-loop-place l = AllStepped l.store l.layer l.lists l.place l.below l.steps.items
