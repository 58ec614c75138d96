use Rattle.pc_build.proofs.EdgeLemmas.{FirstEdges}
use Rattle.pc_build.proofs.edges.edges_of.Given as goal

abbrev pub invariant-loop-node : goal.invariant-loop-node
invariant-loop-node l = FirstEdges l.store l.layer l.nodes l.node-index l.found.nodes.keys l.found.edges
