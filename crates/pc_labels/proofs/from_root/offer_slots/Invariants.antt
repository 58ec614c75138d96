use Rattle.std.proofs.Common.{◌+◌, ◌-◌, ◌≤◌}
use Rattle.pc_diagram.specs.Levels.{level}
use Rattle.pc_labels.specs.Marks.{AreMarks}
use Rattle.pc_labels.specs.SoFar.{AreHeadsSoFar}
use Rattle.pc_labels.proofs.from_root.offer_slots.Given as goal

abbrev pub invariant-loop-value : goal.invariant-loop-value
invariant-loop-value g l = record {
  so_far : AreHeadsSoFar (level l.diagram l.variable) l.slots l.before l.node l.value l.next;
  marks : AreMarks l.fn.next → AreMarks l.next;
  steps : l.steps ≤ l.fn.steps + (l.value - l.slots.values.first);
}
