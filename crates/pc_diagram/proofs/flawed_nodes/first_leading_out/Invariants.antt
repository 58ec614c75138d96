-- No edge of a node so far leads out.
use Rattle.std.proofs.Common.{◌≡◌, ℕ, ◌<◌, false}
use Rattle.pc_diagram.specs.DiagramFaults.{leads_out}
use Rattle.pc_diagram.specs.Levels.{as_level}
use Rattle.pc_diagram.proofs.flawed_nodes.first_leading_out.Given as goal

abbrev pub invariant-loop-node : goal.invariant-loop-node
invariant-loop-node l = (k : ℕ) → k < l.node → leads_out (as_level l.domain l.size l.next l.table) k ≡ false
