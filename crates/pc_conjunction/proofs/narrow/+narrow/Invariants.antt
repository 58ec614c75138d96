use Rattle.std.proofs.Common.{length}
use Rattle.pc_conjunction.proofs.narrow.+narrow.Given as goal

abbrev pub decreases-narrow : goal.decreases-narrow
decreases-narrow l = length l.layers.now
