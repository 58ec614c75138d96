-- The least way from the nodes so far is kept, at one step a node.
use Rattle.std.proofs.Common.{◌+◌, ◌≤◌}
use Rattle.pc_domains.specs.LabelWays.{IsLeastLabelWay}
use Rattle.pc_domains.proofs.label_way.least_label_way.Given as goal

abbrev pub invariant-loop-node : goal.invariant-loop-node
invariant-loop-node g l =
    IsLeastLabelWay l.diagram l.variable l.value l.heads l.tails l.price l.node l.least × (l.steps ≤ l.initial.steps + l.node)
