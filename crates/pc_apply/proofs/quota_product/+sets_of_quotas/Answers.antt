use Rattle.std.proofs.Common.{◌≡◌, ◌<◌, ◌+◌, ◌∙◌, List, Option, length, sym, ap, subst, arith, slice_index, All}
use Rattle.pc_store.specs.Sets.{domains_of, IsIdAt}
use Rattle.pc_apply.specs.declared.quota.Quota.{Quota}
use Rattle.pc_apply.specs.Levels.{EachAnswers, EachCarriedOut}
use Rattle.pc_apply.specs.Lists.{ListsAt}
use Rattle.pc_apply.specs.Quotas.{quotas_at}
use Rattle.pc_apply.proofs.ProductLemmas.{answers_ids, plans_in_range, all_answer, ok_then}
use Rattle.pc_apply.proofs.quota_product.+sets_of_quotas.Goals as goal

pub ends_of_quotas-requires-clause-lists : goal.ends_of_quotas-requires-clause-lists
ends_of_quotas-requires-clause-lists t c =
    let end : c.args.layer ≡ length (domains_of c.args.store.now) = c.if-layer-variables.true ∙ c.variables.ensures.count in
    subst (λ n. ListsAt c.args.store.now n c.args.lists.now) end c.requires.lists

pub returns-then-layer-variables-clause-ids : goal.returns-then-layer-variables-clause-ids
returns-then-layer-variables-clause-ids t c =
    let store = c.args.store.now in
    let end : c.args.layer ≡ length (domains_of store) = c.if-layer-variables.true ∙ c.variables.ensures.count in
    ok_then c.ends_of_quotas.result (λ ids. EachAnswers store store (length (domains_of store)) (quotas_at store (length (domains_of store)) c.args.lists.now) c.args.quotas.now ids.items) (λ ids. EachAnswers store store c.args.layer (quotas_at store c.args.layer c.args.lists.now) c.args.quotas.now ids.items)
    (λ ids answers. subst (λ n. EachAnswers store store n (quotas_at store n c.args.lists.now) c.args.quotas.now ids.items) (sym end) answers) c.ends_of_quotas.ensures

pub carry_out_all-requires-clause-below : goal.carry_out_all-requires-clause-below
carry_out_all-requires-clause-below t c =
    subst (All (IsIdAt c.sets_of_quotas.new.store (c.args.layer + 1))) (sym c.as_slice-4.ensures.value)
    (answers_ids c.args.store.now c.sets_of_quotas.new.store (c.args.layer + 1) (quotas_at c.args.store.now (c.args.layer + 1) c.in_ok-next.next.lists) c.as_slice.result.now c.in_ok-below.below.items c.in_ok-below.ensures.ids)

pub carry_out_all-requires-clause-plans : goal.carry_out_all-requires-clause-plans
carry_out_all-requires-clause-plans t c =
    rw (c.as_slice-2.ensures.value, c.as_slice-3.ensures.value, c.as_slice-4.ensures.value) (
    plans_in_range c.args.store.now c.args.layer (quotas_at c.args.store.now c.args.layer c.args.lists.now) (quotas_at c.args.store.now (c.args.layer + 1) c.in_ok-next.next.lists) c.args.quotas.now c.in_ok-level.level.below.keys c.in_ok-level.level.targets.items c.in_ok-level.level.plans.items (length c.in_ok-below.below.items) (slice_index (domains_of c.sets_of_quotas.new.store) c.args.layer)
    c.in_ok-level.ensures (c.in_ok-below.ensures.ids.count ∙ ap length c.as_slice.ensures.keys) (ap (λ d. slice_index d c.args.layer) c.in_ok-below.ensures.keeps.domains)
    )

pub returns-clause-ids : goal.returns-clause-ids
returns-clause-ids t c =
    let other = c.if-layer-variables.false in
    let count = c.variables.ensures.count in
    let inside = c.requires.layer in
    let inner : c.args.layer < length (domains_of c.args.store.now) = omega arith in
    let first = c.args.store.now in
    let mid = c.sets_of_quotas.new.store in
    let now = c.carry_out_all.new.store in
    let level = c.in_ok-level.level in
    let question = quotas_at first c.args.layer c.args.lists.now in
    let next_question = quotas_at first (c.args.layer + 1) c.in_ok-next.next.lists in
    let values = slice_index (domains_of mid) c.args.layer in
    let below = c.in_ok-below.below.items in
    let answers : EachAnswers first mid (c.args.layer + 1) next_question level.below.keys below = subst (λ (quotas : List (Option Quota)). EachAnswers first mid (c.args.layer + 1) next_question quotas below) c.as_slice.ensures.keys c.in_ok-below.ensures.ids in
    ok_then c.carry_out_all.result (λ ids. EachCarriedOut mid now c.args.layer level.targets.items values below level.plans.items ids.items) (λ ids. EachAnswers first now c.args.layer question c.args.quotas.now ids.items)
    (λ ids out. all_answer first mid now c.args.layer question next_question c.args.quotas.now level.below.keys level.targets.items level.plans.items values below ids.items inner (ap (λ d. slice_index d c.args.layer) c.in_ok-below.ensures.keeps.domains)
    c.in_ok-level.ensures answers c.in_ok-below.ensures.keeps c.carry_out_all.ensures.keeps out)
    (rw (← c.as_slice-2.ensures.value, ← c.as_slice-3.ensures.value, ← c.as_slice-4.ensures.value) c.carry_out_all.ensures.ids)
