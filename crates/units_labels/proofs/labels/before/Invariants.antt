use Rattle.std.proofs.Common.{◌≤◌}
use Rattle.units_labels.proofs.labels.before.Given as goal

abbrev pub invariant-loop-other : goal.invariant-loop-other
invariant-loop-other l = l.count ≤ l.other
