use Rattle.std.proofs.Common.{◌≡◌, ◌+◌}
use Rattle.pc_diagram.specs.Levels.{level}
use Rattle.pc_pareto.specs.Arrivals.{HasAlso}
use Rattle.pc_pareto.proofs.ArrivalLemmas.{IsOwnedBelow}
use Rattle.pc_pareto.proofs.arrivals.add_values.Given as goal

abbrev pub invariant-loop-value : goal.invariant-loop-value
invariant-loop-value g l = record {
  has : HasAlso (IsOwnedBelow l.side (level l.diagram l.variable) l.node l.value) l.fn.lists.items l.lists.items;
  steps : l.steps ≡ l.fn.steps + l.value;
}
