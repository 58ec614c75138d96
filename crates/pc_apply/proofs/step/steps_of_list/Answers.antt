use Rattle.std.proofs.Common.{◌<◌, List, ◌+◌, ◌∙◌, slice_index, Some, All, refl, sym, ap, subst, length, arith}
use Rattle.pc_store.specs.declared.id.Node.{Node}
use Rattle.pc_store.specs.Sets.{domains_of, IsNodeAt}
use Rattle.pc_apply.specs.declared.step.Step.{Step}
use Rattle.pc_apply.specs.Lists.{IsSplit, IsBefore, IsStep, Grows}
use Rattle.pc_apply.proofs.ListLemmas.{Stepped, stepped_more, grows_none, grows_with}
use Rattle.pc_apply.proofs.SplitLemmas.{rows_width, rows_nodes}
use Rattle.pc_apply.proofs.StepLemmas.{before_is_step, split_is_step}
use Rattle.pc_apply.proofs.step.steps_of_list.Goals.{in-Some, in-None+in_ok-count-in-None+in_ok-list-in-None}
use Rattle.pc_apply.proofs.step.steps_of_list.Goals as goal

pub step_before-requires-clause-width : goal.step_before-requires-clause-width
step_before-requires-clause-width c =
    let low = c.loop-value-test.true in
    let high = c.loop-value.auto.value-end in
    let domain = c.domain-value-end.ensures.domain in
    let inside : c.loop-value.value < slice_index (domains_of c.args.store.now) c.args.layer = omega arith in
    subst (All (λ (row : List Node). c.loop-value.value < length row)) (sym c.as_slice.ensures.value) (rows_width c.args.store.now c.args.layer c.args.sets.now c.in_ok-rows.rows.items c.loop-value.value c.in_ok-rows.ensures inside)

pub count-requires-clause-width : goal.count-requires-clause-width
count-requires-clause-width c =
    let low = c.loop-value-test.true in
    let high = c.loop-value.auto.value-end in
    let domain = c.domain-value-end.ensures.domain in
    let inside : c.loop-value.value < slice_index (domains_of c.args.store.now) c.args.layer = omega arith in
    subst (All (λ (row : List Node). c.loop-value.value < length row)) (sym c.as_slice-in-None.ensures.value) (rows_width c.args.store.now c.args.layer c.args.sets.now c.in_ok-rows.rows.items c.loop-value.value c.in_ok-rows.ensures inside)

pub count-requires-clause-nodes : goal.count-requires-clause-nodes
count-requires-clause-nodes c =
    subst (All (All (IsNodeAt c.args.store.now (c.args.layer + 1)))) (sym c.as_slice-in-None.ensures.value) (rows_nodes c.args.store.now c.args.layer c.args.sets.now c.in_ok-rows.rows.items c.in_ok-rows.ensures)

pub loop-value-preserved : goal.loop-value-preserved
loop-value-preserved c =
    let store = c.args.store.now in
    let layer = c.args.layer in
    let sets = c.args.sets.now in
    let rows = c.in_ok-rows.rows.items in
    let value = c.loop-value.value in
    let below = c.loop-value.below in
    let steps = c.loop-value.steps.items in
    let low = c.loop-value-test.true in
    let high = c.loop-value.auto.value-end in
    let domain = c.domain-value-end.ensures.domain in
    let inside : value < slice_index (domains_of store) layer = omega arith in
    let first : IsStep store layer sets value c.match-step_before.below c.match-step_before.step =
    elim c.match-step_before.branch [
      | in-Some w ↦
          let is : IsBefore rows value steps w.in-Some.step = subst (λ (r : List (List Node)). IsBefore r value steps w.in-Some.step) c.as_slice.ensures.value (subst (λ (s : List Step). IsBefore c.as_slice.result.now value s w.in-Some.step) c.as_slice-in-loop-value.ensures.value w.in-Some.ensures) in
          subst (λ b. IsStep store layer sets value b c.match-step_before.step) (sym w.below-is) (subst (IsStep store layer sets value below) (sym w.step-is) (before_is_step store layer sets rows value below steps w.in-Some.step c.in_ok-rows.ensures inside is c.loop-value.invariant.each))
      | in-None+in_ok-count-in-None+in_ok-list-in-None w ↦
          let split : IsSplit store (layer + 1) rows value w.count.new.self = subst (λ (r : List (List Node)). IsSplit store (layer + 1) r value w.count.new.self) w.as_slice-in-None.ensures.value w.in_ok-count-in-None.ensures in
          let step : Step = record { full = w.count.new.self.full; list = w.in_ok-list-in-None.list } in
          subst (λ b. IsStep store layer sets value b c.match-step_before.step) (sym w.below-is) (subst (IsStep store layer sets value w.place.new.self) (sym w.step-is)
          (split_is_step store layer sets rows value w.place.new.self step w.count.new.self c.in_ok-rows.ensures inside split refl (w.in_ok-list-in-None.ensures.stands ∙ ap Some w.as_slice-in-None-2.ensures.value)))
    ] in
    let grows : Grows store (layer + 1) below c.match-step_before.below =
    elim c.match-step_before.branch [
      | in-Some w ↦ subst (Grows store (layer + 1) below) (sym w.below-is) (grows_none store (layer + 1) below c.loop-value.invariant.grows.lists_at)
      | in-None+in_ok-count-in-None+in_ok-list-in-None w ↦
          let split : IsSplit store (layer + 1) rows value w.count.new.self = subst (λ (r : List (List Node)). IsSplit store (layer + 1) r value w.count.new.self) w.as_slice-in-None.ensures.value w.in_ok-count-in-None.ensures in
          subst (Grows store (layer + 1) below) (sym w.below-is)
          (grows_with store (layer + 1) below w.place.new.self w.as_slice-in-None-2.result.now c.loop-value.invariant.grows.lists_at (subst (All (IsNodeAt store (layer + 1))) (sym w.as_slice-in-None-2.ensures.value) split.rest) w.in_ok-list-in-None.ensures.lists)
    ] in
    subst (Stepped store layer sets (value + 1) c.args.below.now c.match-step_before.below) (sym {A = List Step} c.in_ok-push.ensures.items)
    (stepped_more store layer sets value c.args.below.now below c.match-step_before.below steps c.match-step_before.step c.loop-value.invariant first grows)
