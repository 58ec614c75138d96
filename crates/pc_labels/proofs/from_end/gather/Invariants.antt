use Rattle.std.proofs.Common.{◌+◌, ◌-◌, ◌*◌, ◌≤◌}
use Rattle.pc_diagram.specs.Levels.{level}
use Rattle.pc_labels.specs.Marks.{AreMarks}
use Rattle.pc_labels.specs.SoFar.{AreTailsSoFar}
use Rattle.pc_labels.proofs.from_end.gather.Given as goal

abbrev pub invariant-loop-node : goal.invariant-loop-node
invariant-loop-node g l = record {
  so_far : AreTailsSoFar (level l.diagram l.variable) l.slots l.after l.node l.before;
  marks : AreMarks l.before;
  steps : l.steps ≤ l.fn.steps + l.node * (l.slots.values.end - l.slots.values.first);
}
