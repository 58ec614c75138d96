use Rattle.std.proofs.Common.{◌+◌, ◌-◌, ◌≤◌, length}
use Rattle.pc_labels.specs.Growing.{AreTailsFrom}
use Rattle.pc_labels.specs.Labels.{slot_count}
use Rattle.pc_labels.proofs.labels.Labels.tails_again.Given as goal

abbrev pub invariant-loop-made : goal.invariant-loop-made
invariant-loop-made g l = record {
  made : AreTailsFrom l.diagram l.choices l.costs (length l.diagram.domains - l.made) l.layers.items;
  steps : l.steps ≤ l.fn.steps + slot_count l.diagram l.choices (length l.diagram.domains - l.made) (l.made - (length l.diagram.domains - 1 - l.variable));
}
