use Rattle.pc_build.proofs.TablesLemmas.{Extracted}
use Rattle.pc_build.proofs.tables.tables_of.Given as goal

abbrev pub invariant-loop-layer : goal.invariant-loop-layer
invariant-loop-layer l = Extracted l.store l.fn.set l.layer l.nodes.keys l.raw
