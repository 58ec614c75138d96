-- The nodes of the layers so far.
use Rattle.std.proofs.Common.{◌≡◌, take, sum}
use Rattle.pc_diagram.proofs.diagram.Diagram.node_count.Given as goal

abbrev pub invariant-loop-size : goal.invariant-loop-size
invariant-loop-size l = l.nodes ≡ sum (take l.size-index l.size-items)
