use Rattle.std.proofs.Common.{length}
use Rattle.pc_conjunction.proofs.stored.+sets_of_places.Given as goal

abbrev pub decreases-sets_of_places : goal.decreases-sets_of_places
decreases-sets_of_places l = length l.layers.now
