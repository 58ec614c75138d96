use Rattle.std.proofs.Common.{◌+◌, ◌-◌, ◌*◌, ◌≤◌}
use Rattle.std.specs.Prelude.{slice_index}
use Rattle.pc_diagram.specs.Levels.{level}
use Rattle.pc_labels.specs.Marks.{IsBelow}
use Rattle.pc_labels.specs.Slots.{IsLeastOf}
use Rattle.pc_labels.specs.SoFar.{HasLedOn, backward_by}
use Rattle.pc_labels.proofs.from_end.least_slot.Given as goal

abbrev pub invariant-loop-value : goal.invariant-loop-value
invariant-loop-value g l = record {
  least : IsLeastOf (HasLedOn (level l.diagram l.variable) l.slots l.node l.value) (backward_by l.slots l.after) l.least.weight l.least.step;
  below : IsBelow (l.after.limit * slice_index l.diagram.domains l.variable) l.least.weight;
  steps : l.steps ≤ l.fn.steps + (l.value - l.slots.values.first);
}
