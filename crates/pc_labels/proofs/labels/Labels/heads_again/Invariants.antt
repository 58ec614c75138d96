use Rattle.std.proofs.Common.{◌+◌, ◌-◌, ◌≤◌}
use Rattle.pc_labels.specs.Growing.{AreHeadsUpTo}
use Rattle.pc_labels.specs.Labels.{slot_count}
use Rattle.pc_labels.proofs.labels.Labels.heads_again.Given as goal

abbrev pub invariant-loop-next : goal.invariant-loop-next
invariant-loop-next g l = record {
  made : AreHeadsUpTo l.diagram l.choices l.costs l.next l.layers.items;
  steps : l.steps ≤ l.fn.steps + slot_count l.diagram l.choices l.variable (l.next - l.variable);
}
