use Rattle.std.proofs.Common.{◌-◌, length}
use Rattle.pc_labels.proofs.labels.+push_tail.Given as goal

abbrev pub decreases-push_tail : goal.decreases-push_tail
decreases-push_tail l = length l.layers.now - l.layer
