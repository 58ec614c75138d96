use Rattle.pc_apply.proofs.SplitLemmas.{Counted}
use Rattle.pc_apply.proofs.split.Split.count.Given as goal

abbrev pub invariant-loop-row : goal.invariant-loop-row
invariant-loop-row l = Counted l.store l.layer l.rows l.value l.row-index l.self
