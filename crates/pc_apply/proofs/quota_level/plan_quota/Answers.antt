use Rattle.pc_apply.specs.Quotas.{IsQuotaOf}
use Rattle.pc_apply.proofs.LevelLemmas.{planned_none}
use Rattle.pc_apply.proofs.quota_level.plan_quota.Goals as goal

pub returns-in-None-clause-more : goal.returns-in-None-clause-more
returns-in-None-clause-more c = planned_none (IsQuotaOf c.args.next.now.lists) c.args.below.now.keys c.args.targets.now.items c.requires.below

pub returns-in-Some-clause-more : goal.returns-in-Some-clause-more
returns-in-Some-clause-more c = planned_none (IsQuotaOf c.args.next.now.lists) c.args.below.now.keys c.args.targets.now.items c.requires.below
