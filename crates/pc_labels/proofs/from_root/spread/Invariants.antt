use Rattle.std.proofs.Common.{◌+◌, ◌-◌, ◌*◌, ◌≤◌}
use Rattle.pc_diagram.specs.Levels.{level}
use Rattle.pc_labels.specs.Marks.{AreMarks}
use Rattle.pc_labels.specs.SoFar.{AreHeadsSoFar}
use Rattle.pc_labels.proofs.from_root.spread.Given as goal

abbrev pub invariant-loop-node : goal.invariant-loop-node
invariant-loop-node g l = record {
  so_far : AreHeadsSoFar (level l.diagram l.variable) l.slots l.before l.node 0 l.next;
  marks : AreMarks l.next;
  steps : l.steps ≤ l.fn.steps + l.node * (l.slots.values.end - l.slots.values.first);
}
