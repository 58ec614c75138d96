use Rattle.pc_apply.proofs.SplitLemmas.{RowsFirst}
use Rattle.pc_apply.proofs.step.rows_of.Given as goal

abbrev pub invariant-loop-set : goal.invariant-loop-set
invariant-loop-set l = RowsFirst l.store l.layer l.sets l.set-index l.rows.items
