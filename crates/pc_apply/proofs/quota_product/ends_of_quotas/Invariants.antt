use Rattle.std.proofs.Common.{length, take}
use Rattle.pc_store.specs.Sets.{domains_of}
use Rattle.pc_apply.specs.Levels.{EachAnswers}
use Rattle.pc_apply.specs.Quotas.{quotas_at}
use Rattle.pc_apply.proofs.quota_product.ends_of_quotas.Given as goal

abbrev pub invariant-loop-quota : goal.invariant-loop-quota
invariant-loop-quota l = EachAnswers l.store l.store (length (domains_of l.store)) (quotas_at l.store (length (domains_of l.store)) l.lists) (take l.quota-index l.quotas) l.ids.items
