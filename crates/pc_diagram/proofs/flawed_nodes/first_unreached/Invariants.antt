-- An edge leads to each node so far.
use Rattle.std.proofs.Common.{◌≡◌, ℕ, ◌<◌, false}
use Rattle.pc_diagram.specs.DiagramFaults.{is_unreached}
use Rattle.pc_diagram.specs.Levels.{as_level}
use Rattle.pc_diagram.proofs.flawed_nodes.first_unreached.Given as goal

abbrev pub invariant-loop-node : goal.invariant-loop-node
invariant-loop-node l = (k : ℕ) → k < l.node → is_unreached (as_level 0 0 l.next l.table) k ≡ false
