-- The least way from the nodes so far is kept, at one step a node.
use Rattle.std.proofs.Common.{◌+◌, ◌≤◌}
use Rattle.pc_domains.specs.FrontWays.{IsLeastFrontWay}
use Rattle.pc_domains.proofs.front_way.least_front_way.Given as goal

abbrev pub invariant-loop-node : goal.invariant-loop-node
invariant-loop-node g l =
    IsLeastFrontWay l.diagram l.variable l.value l.heads l.tails l.price l.bounds l.node l.least × (l.steps ≤ l.initial.steps + l.node)
