use Rattle.std.proofs.Common.{◌+◌, take}
use Rattle.pc_apply.specs.Levels.{EachFits}
use Rattle.pc_apply.specs.Quotas.{quotas_at}
use Rattle.pc_apply.proofs.quota_level.plan_quotas.Given as goal

abbrev pub invariant-loop-quota : goal.invariant-loop-quota
invariant-loop-quota l = EachFits l.store l.layer (quotas_at l.store l.layer l.lists) (quotas_at l.store (l.layer + 1) l.next.lists) (take l.quota-index l.quotas) l.below.keys l.targets.items l.plans.items
