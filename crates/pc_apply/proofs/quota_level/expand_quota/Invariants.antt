use Rattle.std.proofs.Common.{◌+◌, Some}
use Rattle.pc_apply.specs.Quotas.{quotas_at}
use Rattle.pc_apply.proofs.LevelLemmas.{Expanded}
use Rattle.pc_apply.proofs.quota_level.expand_quota.Given as goal

abbrev pub invariant-loop-value : goal.invariant-loop-value
invariant-loop-value l = Expanded l.store l.layer (quotas_at l.store l.layer l.lists) (quotas_at l.store (l.layer + 1) l.next.lists) (Some l.quota) l.value l.fn.below.keys l.below.keys l.fn.targets.items l.targets.items
