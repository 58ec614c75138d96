use Rattle.std.proofs.Common.{List, ◌++◌, take}
use Rattle.pc_store.specs.declared.id.Node.{Node}
use Rattle.pc_build.specs.Extracts.{AreEdges}
use Rattle.pc_build.proofs.edges.Edges.add_all.Given as goal

abbrev pub invariant-loop-value : goal.invariant-loop-value
invariant-loop-value l = (before : List Node) → AreEdges l.store l.layer before l.fn.self.nodes.keys l.fn.self.edges → AreEdges l.store l.layer (before ++ take l.value l.children) l.self.nodes.keys l.self.edges
