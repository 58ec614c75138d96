-- No node so far has the edges of an earlier one, so the rows are those of all nodes so far.
use Rattle.std.proofs.Common.{◌≡◌, ℕ, ◌<◌, false, map}
use Rattle.std.specs.List.{range_with_len}
use Rattle.pc_diagram.specs.DiagramFaults.{is_twin}
use Rattle.pc_diagram.specs.Levels.{as_level, row}
use Rattle.pc_diagram.proofs.flawed_nodes.first_twin.Given as goal

abbrev pub invariant-loop-node : goal.invariant-loop-node
invariant-loop-node l = record {
  so_far : map (λ r. r.now) l.rows.keys ≡ map (row (as_level l.domain l.size 0 l.table)) (range_with_len 0 l.node);
  none : (k : ℕ) → k < l.node → is_twin (as_level l.domain l.size 0 l.table) k ≡ false;
}
