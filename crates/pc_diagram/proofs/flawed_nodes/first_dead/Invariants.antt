-- No node so far is dead.
use Rattle.std.proofs.Common.{◌≡◌, ℕ, ◌<◌, false}
use Rattle.pc_diagram.specs.DiagramFaults.{is_dead}
use Rattle.pc_diagram.specs.Levels.{as_level}
use Rattle.pc_diagram.proofs.flawed_nodes.first_dead.Given as goal

abbrev pub invariant-loop-node : goal.invariant-loop-node
invariant-loop-node l = (k : ℕ) → k < l.node → is_dead (as_level l.domain l.size 0 l.table) k ≡ false
