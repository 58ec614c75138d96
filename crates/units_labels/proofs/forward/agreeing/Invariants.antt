use Rattle.std.proofs.Common.{◌*◌, ◌≤◌}
use Rattle.units_labels.proofs.forward.agreeing.Given as goal

abbrev pub invariant-loop-layer : goal.invariant-loop-layer
invariant-loop-layer l = l.count ≤ 4294967296 * l.layer
