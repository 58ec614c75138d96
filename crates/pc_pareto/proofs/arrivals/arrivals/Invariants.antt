use Rattle.std.proofs.Common.{◌+◌, ◌*◌, ◌≤◌, replicate, [], slice_index}
use Rattle.pc_diagram.specs.Levels.{level}
use Rattle.pc_pareto.specs.Arrivals.{HasAlso, IsArrival, target_count}
use Rattle.pc_pareto.proofs.arrivals.arrivals.Given as goal

abbrev pub invariant-loop-node : goal.invariant-loop-node
invariant-loop-node g l = record {
  has : HasAlso (IsArrival l.side (level l.diagram l.variable) l.chosen l.node) (replicate (target_count l.side (level l.diagram l.variable)) []) l.lists.items;
  steps : l.steps ≤ l.fn.steps + l.node * slice_index l.diagram.domains l.variable;
}
