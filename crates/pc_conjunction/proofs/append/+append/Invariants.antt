use Rattle.std.proofs.Common.{length}
use Rattle.pc_conjunction.proofs.append.+append.Given as goal

abbrev pub decreases-append : goal.decreases-append
decreases-append l = length l.layers.now
