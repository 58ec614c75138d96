use Rattle.std.proofs.Common.{◌≤◌}
use Rattle.units_labels.proofs.forward.agreeing_in.Given as goal

abbrev pub invariant-loop-node : goal.invariant-loop-node
invariant-loop-node l = l.count ≤ l.node
