use Rattle.std.proofs.Common.{◌≡◌, ◌<◌, ◌∙◌, sym, ap, subst, ◌+◌, List, ℕ, Some, length, get_or, slice_index, arith, []}
use Rattle.std.specs.Option.{option_eq}
use Rattle.std.proofs.lemmas.Option.{slice_get-get_or}
use Rattle.pc_apply.specs.declared.step.Step.{Step}
use Rattle.pc_apply.specs.Lists.{HasSteps, IsStep}
use Rattle.pc_apply.specs.Quotas.{quotas_at}
use Rattle.pc_apply.proofs.LevelLemmas.{Expanded, expanded_none, expanded_more}
use Rattle.pc_apply.proofs.QuotaLemmas.{same_quota, quotas_alike, quota_follows, steps_at}
use Rattle.pc_apply.proofs.quota_level.expand_quota.Goals as goal

pub loop-value-init : goal.loop-value-init
loop-value-init c = expanded_none c.args.store.now c.args.layer (quotas_at c.args.store.now c.args.layer c.args.lists.now) (quotas_at c.args.store.now (c.args.layer + 1) c.args.next.now.lists) (Some c.args.quota) c.args.below.now.keys c.args.targets.now.items c.requires.below

pub bounds-steps-value : goal.bounds-steps-value
bounds-steps-value c =
    let has : HasSteps c.args.store.now c.args.layer (get_or c.args.lists.now c.args.quota.list []) c.args.next.now.lists c.index.result.now = steps_at c.args.store.now c.args.layer c.args.lists.now c.args.next.now.lists c.args.next.now.steps.items c.args.quota.list c.index.result.now c.requires.steps c.requires.quota c.index.ensures in
    let width = has.count in
    let same = ap length c.as_slice-steps.ensures.value in
    let domain = c.domain-value-end.ensures.domain in
    let low = c.loop-value-test.true in
    let high = c.loop-value.auto.value-end in
    omega arith

pub loop-value-preserved : goal.loop-value-preserved
loop-value-preserved c =
    let store = c.args.store.now in
    let layer = c.args.layer in
    let lists = c.args.lists.now in
    let next = c.args.next.now.lists in
    let question = quotas_at store layer lists in
    let next_question = quotas_at store (layer + 1) next in
    let value = c.loop-value.value in
    let steps = c.as_slice-steps.result.now in
    let step : Step = get_or steps value (record { full = 0; list = 0 }) in
    let has : HasSteps store layer (get_or lists c.args.quota.list []) next c.index.result.now = steps_at store layer lists next c.args.next.now.steps.items c.args.quota.list c.index.result.now c.requires.steps c.requires.quota c.index.ensures in
    let inside : value < length steps =
    (let width = has.count in
    let same = ap length c.as_slice-steps.ensures.value in
    let domain = c.domain-value-end.ensures.domain in
    let low = c.loop-value-test.true in
    let high = c.loop-value.auto.value-end in
    omega arith) in
    let is_step : IsStep store layer (get_or lists c.args.quota.list []) value next step = has.each value step (ap (λ (l : List Step). Rattle.std.proofs.Common.slice_get l value) (sym c.as_slice-steps.ensures.value) ∙ slice_get-get_or steps value (record { full = 0; list = 0 }) inside) in
    subst (Expanded store layer question next_question (Some c.args.quota) (value + 1) c.args.below.now.keys c.place_near.new.states.keys c.args.targets.now.items) (sym {A = List ℕ} c.in_ok-push.ensures.items)
    (expanded_more (option_eq same_quota) store layer question next_question (Some c.args.quota) value c.args.below.now.keys c.loop-value.below.keys c.args.targets.now.items c.loop-value.targets.items c.after-left.result c.in_ok-place_near.field-0 c.place_near.new.states.keys
    (quotas_alike store layer lists next) c.loop-value.invariant (quota_follows store layer lists next c.args.quota value step c.after-left.result is_step c.after-left.ensures.left c.after-left.ensures.list c.after-left.ensures.none) c.in_ok-place_near.ensures.stands c.in_ok-place_near.ensures.keys)
