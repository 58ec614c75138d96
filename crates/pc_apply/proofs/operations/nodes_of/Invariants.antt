use Rattle.std.proofs.Common.{take}
use Rattle.pc_apply.specs.Counting.{AreNodes}
use Rattle.pc_apply.proofs.operations.nodes_of.Given as goal

abbrev pub invariant-loop-set : goal.invariant-loop-set
invariant-loop-set l = AreNodes (take l.set-index l.sets) l.nodes.items
