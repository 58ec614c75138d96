use Rattle.std.proofs.Common.{length, ◌-◌}
use Rattle.pc_store.specs.Sets.{domains_of}
use Rattle.pc_apply.proofs.quota_product.+sets_of_quotas.Given as goal

abbrev pub decreases-sets_of_quotas : goal.decreases-sets_of_quotas
decreases-sets_of_quotas l = length (domains_of l.store.now) - l.layer
