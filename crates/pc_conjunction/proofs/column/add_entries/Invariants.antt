use Rattle.pc_conjunction.proofs.ColumnLemmas.{Growing}
use Rattle.pc_conjunction.proofs.column.add_entries.Given as goal

abbrev pub invariant-loop-pair : goal.invariant-loop-pair
invariant-loop-pair l = Growing l.store l.layer l.count l.value l.pairs l.pair-index l.fn.next.keys l.next.keys l.fn.column l.column
