use Rattle.std.proofs.Common.{◌≡◌, sym, subst, ◌+◌, List, ℕ, length, slice_index, arith}
use Rattle.pc_store.specs.Sets.{domains_of}
use Rattle.pc_apply.specs.declared.pair.Operation.TheVariants.{And}
use Rattle.pc_apply.specs.declared.pair.Pair.{Pair}
use Rattle.pc_apply.specs.Levels.{LeadsFrom}
use Rattle.pc_apply.specs.Pairs.{same_pair, pairs_at}
use Rattle.pc_apply.proofs.LevelLemmas.{Expanded, expanded_none, expanded_more, expanded_all}
use Rattle.pc_apply.proofs.PairLemmas.{pair_follows, pairs_alike}
use Rattle.pc_apply.proofs.pair_level.expand_pair.Goals as goal

pub loop-value-init : goal.loop-value-init
loop-value-init c =
    λ operation.
    expanded_none c.args.store.now c.args.layer (pairs_at c.args.store.now c.args.layer operation) (pairs_at c.args.store.now (c.args.layer + 1) operation) c.args.pair c.args.below.now.keys c.args.targets.now.items c.requires.below

pub loop-value-preserved : goal.loop-value-preserved
loop-value-preserved c =
    λ operation.
    let store = c.args.store.now in
    let layer = c.args.layer in
    let question = pairs_at store layer operation in
    let next_question = pairs_at store (layer + 1) operation in
    let value = c.loop-value.value in
    let next : Pair = record { left = c.node.result; right = c.node-in-loop-value.result } in
    subst (Expanded store layer question next_question c.args.pair (value + 1) c.args.below.now.keys c.place_near.new.states.keys c.args.targets.now.items) (sym {A = List ℕ} c.in_ok-push.ensures.items)
    (expanded_more same_pair store layer question next_question c.args.pair value c.args.below.now.keys c.loop-value.below.keys c.args.targets.now.items c.loop-value.targets.items next c.in_ok-place_near.field-0 c.place_near.new.states.keys
    (pairs_alike store layer operation) (c.loop-value.invariant operation)
    (pair_follows store layer operation c.args.pair next value
    (c.children-left.ensures.nodes value next.left c.node.ensures) (c.children-left.ensures.sets value next.left c.node.ensures)
    (c.children-right.ensures.nodes value next.right c.node-in-loop-value.ensures) (c.children-right.ensures.sets value next.right c.node-in-loop-value.ensures))
    c.in_ok-place_near.ensures.stands c.in_ok-place_near.ensures.keys)

pub returns-clause-leads : goal.returns-clause-leads
returns-clause-leads c =
    λ operation.
    let store = c.args.store.now in
    let layer = c.args.layer in
    let question = pairs_at store layer operation in
    let next_question = pairs_at store (layer + 1) operation in
    let low = c.loop-value-test.false in
    let high = c.loop-value.auto.value-end in
    let domain = c.domain-value-end.ensures.domain in
    let all : c.loop-value.value ≡ slice_index (domains_of store) layer = omega arith in
    subst (LeadsFrom store layer question next_question c.args.pair c.loop-value.below.keys c.loop-value.targets.items (length c.args.targets.now.items)) all
    (expanded_all store layer question next_question c.args.pair c.loop-value.value c.args.below.now.keys c.loop-value.below.keys c.args.targets.now.items c.loop-value.targets.items (c.loop-value.invariant operation))

pub returns-clause-more : goal.returns-clause-more
returns-clause-more c = (c.loop-value.invariant And).planned
