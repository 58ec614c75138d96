use Rattle.std.proofs.Common.{◌+◌, ◌≤◌}
use Rattle.pc_labels.specs.Growing.{AreHeadsUpTo}
use Rattle.pc_labels.specs.Labels.{slot_count}
use Rattle.pc_labels.proofs.labels.heads.Given as goal

abbrev pub invariant-loop-variable : goal.invariant-loop-variable
invariant-loop-variable g l = record {
  made : AreHeadsUpTo l.diagram l.choices l.costs l.variable l.layers.items;
  steps : l.steps ≤ l.fn.steps + slot_count l.diagram l.choices 0 l.variable;
}
