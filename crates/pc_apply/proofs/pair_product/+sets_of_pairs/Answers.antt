use Rattle.std.proofs.Common.{◌≡◌, ◌<◌, ◌+◌, ◌∙◌, length, sym, ap, subst, arith, slice_index, All}
use Rattle.pc_store.specs.Sets.{domains_of, IsIdAt}
use Rattle.pc_apply.specs.Levels.{AllAt, EachAnswers, EachCarriedOut}
use Rattle.pc_apply.specs.Pairs.{HasBoth, pairs_at}
use Rattle.pc_apply.proofs.ProductLemmas.{answers_ids, plans_in_range, all_answer, ok_then}
use Rattle.pc_apply.proofs.pair_product.+sets_of_pairs.Goals as goal

pub ends_of_pairs-requires : goal.ends_of_pairs-requires
ends_of_pairs-requires t c =
    let end : c.args.layer ≡ length (domains_of c.args.store.now) = c.if-layer-variables.true ∙ c.variables.ensures.count in
    subst (λ n. AllAt (HasBoth c.args.store.now n) c.args.pairs.now) end c.requires.sets

pub sets_of_pairs-requires : goal.sets_of_pairs-requires
sets_of_pairs-requires t c =
    let other = c.if-layer-variables.false in
    let count = c.variables.ensures.count in
    let inside = c.requires.layer in
    let falls = c.decreases in
    let below : AllAt (HasBoth c.args.store.now (c.args.layer + 1)) c.as_slice.result.now = subst (AllAt (HasBoth c.args.store.now (c.args.layer + 1))) (sym c.as_slice.ensures.keys) c.in_ok-level.ensures.all_at in
    (omega arith, (omega arith, below))

pub carry_out_all-requires-clause-below : goal.carry_out_all-requires-clause-below
carry_out_all-requires-clause-below t c =
    subst (All (IsIdAt c.sets_of_pairs.new.store (c.args.layer + 1))) (sym c.as_slice-4.ensures.value)
    (answers_ids c.args.store.now c.sets_of_pairs.new.store (c.args.layer + 1) (pairs_at c.args.store.now (c.args.layer + 1) c.args.operation) c.as_slice.result.now c.in_ok-sets.sets.items c.in_ok-sets.ensures.ids)

pub carry_out_all-requires-clause-plans : goal.carry_out_all-requires-clause-plans
carry_out_all-requires-clause-plans t c =
    rw (c.as_slice-2.ensures.value, c.as_slice-3.ensures.value, c.as_slice-4.ensures.value) (
    plans_in_range c.args.store.now c.args.layer (pairs_at c.args.store.now c.args.layer c.args.operation) (pairs_at c.args.store.now (c.args.layer + 1) c.args.operation) c.args.pairs.now c.in_ok-level.level.below.keys c.in_ok-level.level.targets.items c.in_ok-level.level.plans.items (length c.in_ok-sets.sets.items) (slice_index (domains_of c.sets_of_pairs.new.store) c.args.layer)
    c.in_ok-level.ensures (c.in_ok-sets.ensures.ids.count ∙ ap length c.as_slice.ensures.keys) (ap (λ d. slice_index d c.args.layer) c.in_ok-sets.ensures.keeps.domains)
    )

pub returns-clause-ids : goal.returns-clause-ids
returns-clause-ids t c =
    let other = c.if-layer-variables.false in
    let count = c.variables.ensures.count in
    let inside = c.requires.layer in
    let inner : c.args.layer < length (domains_of c.args.store.now) = omega arith in
    let first = c.args.store.now in
    let mid = c.sets_of_pairs.new.store in
    let now = c.carry_out_all.new.store in
    let level = c.in_ok-level.level in
    let question = pairs_at first c.args.layer c.args.operation in
    let next_question = pairs_at first (c.args.layer + 1) c.args.operation in
    let values = slice_index (domains_of mid) c.args.layer in
    let below = c.in_ok-sets.sets.items in
    let answers : EachAnswers first mid (c.args.layer + 1) next_question level.below.keys below = subst (λ pairs. EachAnswers first mid (c.args.layer + 1) next_question pairs below) c.as_slice.ensures.keys c.in_ok-sets.ensures.ids in
    ok_then c.carry_out_all.result (λ ids. EachCarriedOut mid now c.args.layer level.targets.items values below level.plans.items ids.items) (λ ids. EachAnswers first now c.args.layer question c.args.pairs.now ids.items)
    (λ ids out. all_answer first mid now c.args.layer question next_question c.args.pairs.now level.below.keys level.targets.items level.plans.items values below ids.items inner (ap (λ d. slice_index d c.args.layer) c.in_ok-sets.ensures.keeps.domains)
    c.in_ok-level.ensures answers c.in_ok-sets.ensures.keeps c.carry_out_all.ensures.keeps out)
    (rw (← c.as_slice-2.ensures.value, ← c.as_slice-3.ensures.value, ← c.as_slice-4.ensures.value) c.carry_out_all.ensures.ids)
