use Rattle.std.proofs.Common.{[], List, ◌+◌, ◌<◌, length, slice_index_or, All, sym, subst, arith}
use Rattle.std.proofs.lemmas.Option.{slice_get-get_or}
use Rattle.pc_store.specs.declared.id.Node.{Node}
use Rattle.pc_store.specs.Sets.{IsNodeAt}
use Rattle.pc_apply.specs.declared.step.Steps.{Steps}
use Rattle.pc_apply.proofs.ListLemmas.{AllStepped, all_stepped_more}
use Rattle.pc_apply.proofs.step.steps_of.Goals as goal

pub steps_of_list-requires-clause-sets : goal.steps_of_list-requires-clause-sets
steps_of_list-requires-clause-sets c =
    let place = c.loop-place.place in
    let lists = c.args.lists.now in
    let low = c.loop-place-test.true in
    let high = c.loop-place.auto.place-end in
    let count = c.len-place-end.ensures in
    let inside : place < length lists = omega arith in
    subst (All (IsNodeAt c.args.store.now c.args.layer)) (sym {A = List Node} c.list.ensures) (c.requires.lists place (slice_index_or lists place []) (slice_get-get_or lists place [] inside))

pub loop-place-preserved : goal.loop-place-preserved
loop-place-preserved c =
    subst (AllStepped c.args.store.now c.args.layer c.args.lists.now (c.loop-place.place + 1) c.steps_of_list.new.below) (sym {A = List Steps} c.in_ok-push.ensures.items)
    (all_stepped_more c.args.store.now c.args.layer c.args.lists.now c.loop-place.place c.loop-place.below c.steps_of_list.new.below c.loop-place.steps.items c.in_ok-steps_of_list.field-0 c.list.result.now c.loop-place.invariant c.list.ensures c.in_ok-steps_of_list.ensures.steps c.in_ok-steps_of_list.ensures.more)
