use Rattle.std.proofs.Common.{length, ◌-◌}
use Rattle.pc_store.specs.Sets.{domains_of}
use Rattle.pc_apply.proofs.pair_product.+sets_of_pairs.Given as goal

abbrev pub decreases-sets_of_pairs : goal.decreases-sets_of_pairs
decreases-sets_of_pairs l = length (domains_of l.store.now) - l.layer
