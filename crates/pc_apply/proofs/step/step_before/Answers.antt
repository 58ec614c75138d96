use Rattle.std.proofs.Common.{◌≡◌, ◌+◌, ◌∙◌, List, All, Some, slice_get, get_or, sym, ap, subst, arith}
use Rattle.std.proofs.lemmas.List.{take_all, get_or_default}
use Rattle.std.proofs.lemmas.List.Elements.{All-more}
use Rattle.pc_store.specs.declared.id.Node.{Node}
use Rattle.pc_apply.specs.declared.step.Step.{Step}
use Rattle.pc_apply.proofs.StepLemmas.{not_different, step_is_before}
use Rattle.pc_apply.proofs.step.step_before.Goals as goal

pub loop-row-preserved : goal.loop-row-preserved
loop-row-preserved c =
    let same = not_different c.node.result c.node-in-loop-row.result c.ne.result c.ne.ensures c.if-ne.false in
    All-more (λ (r : List Node). slice_get r c.in_ok-before.before ≡ slice_get r c.args.value) c.args.rows.now c.loop-row.row-index c.row-item.result c.loop-row-test.true c.loop-row.invariant
    (subst (λ (r : List Node). slice_get r c.in_ok-before.before ≡ slice_get r c.args.value) c.row-item.is (c.node.ensures ∙ ap Some same ∙ sym c.node-in-loop-row.ensures))

pub returns : goal.returns
returns c =
    let next = c.in_ok-before.ensures in
    let after : c.in_ok-before.before + 1 ≡ c.args.value = omega arith in
    let past = c.loop-row-test.false in
    let count = c.requires.steps in
    let step : Step = get_or c.args.steps.now c.in_ok-before.before (record { full = 0; list = 0 }) in
    let read : step ≡ get_or c.args.steps.now c.in_ok-before.before step = get_or_default c.args.steps.now c.in_ok-before.before (record { full = 0; list = 0 }) step (omega arith) in
    step_is_before c.args.rows.now c.in_ok-before.before c.args.value c.args.steps.now step after
    (subst (All (λ (r : List Node). slice_get r c.in_ok-before.before ≡ slice_get r c.args.value)) (take_all c.loop-row.row-index c.args.rows.now past) c.loop-row.invariant)
    c.requires.steps read
