use Rattle.std.proofs.Common.{◌≡◌, ◌≤◌, List, Option, None, length, get_or, sym, subst, take, ◌+◌, arith}
use Rattle.std.proofs.lemmas.List.{take_all, get_or_default}
use Rattle.pc_apply.specs.declared.plan.Plan.{Plan}
use Rattle.pc_apply.specs.declared.quota.Quota.{Quota}
use Rattle.pc_apply.specs.Levels.{EachFits}
use Rattle.pc_apply.specs.Quotas.{quotas_at}
use Rattle.pc_apply.proofs.LevelLemmas.{each_fits_more}
use Rattle.pc_apply.proofs.quota_level.plan_quotas.Goals as goal

pub loop-quota-preserved : goal.loop-quota-preserved
loop-quota-preserved c =
    let store = c.args.store.now in
    let question = quotas_at store c.args.layer c.args.lists.now in
    let next_question = quotas_at store (c.args.layer + 1) c.args.next.now.lists in
    let quotas = c.args.quotas.now in
    let i = c.loop-quota.quota-index in
    let quota : Option Quota = get_or quotas i None in
    let read : quota ≡ get_or quotas i quota = get_or_default quotas i None quota c.loop-quota-test.true in
    subst (EachFits store c.args.layer question next_question (take (i + 1) quotas) c.plan_quota.new.below.keys c.plan_quota.new.targets.items) (sym {A = List Plan} c.in_ok-push.ensures.items)
    (each_fits_more store c.args.layer question next_question quotas i quota c.loop-quota.below.keys c.plan_quota.new.below.keys c.loop-quota.targets.items c.plan_quota.new.targets.items c.loop-quota.plans.items c.in_ok-plan_quota.field-0
    c.loop-quota-test.true read c.loop-quota.invariant c.in_ok-plan_quota.ensures.more c.in_ok-plan_quota.ensures.plan)

pub returns : goal.returns
returns c =
    let store = c.args.store.now in
    let quotas = c.args.quotas.now in
    let i = c.loop-quota.quota-index in
    let past = c.loop-quota-test.false in
    let all : length quotas ≤ i = omega arith in
    subst (λ (qs : List (Option Quota)). EachFits store c.args.layer (quotas_at store c.args.layer c.args.lists.now) (quotas_at store (c.args.layer + 1) c.args.next.now.lists) qs c.loop-quota.below.keys c.loop-quota.targets.items c.loop-quota.plans.items) (take_all i quotas all) c.loop-quota.invariant
