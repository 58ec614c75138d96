use Rattle.pc_store.proofs.SizeLemmas.{Counted}
use Rattle.pc_store.proofs.size.size_of.Given as goal

abbrev pub invariant-loop-layer : goal.invariant-loop-layer
invariant-loop-layer l = Counted l.layers l.node l.layer-index l.nodes.keys l.count
