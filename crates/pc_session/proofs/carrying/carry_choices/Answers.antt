-- One choice more is carried over, or its name is lost.
use Rattle.std.proofs.Common.{◌+◌, get_or, drop, subst, sym}
use Rattle.std.proofs.lemmas.List.Elements.{All-head}
use Rattle.std.proofs.lemmas.Result.{err_from_is_err_and}
use Rattle.pc_diagram.specs.declared.choice.Choice.{Choice}
use Rattle.pc_session.specs.Moving.{IsNew}
use Rattle.pc_session.proofs.CarryLemmas.{AreCarried, carried_variable_is, left_from, one_carried, one_lost}
use Rattle.pc_session.proofs.carrying.carry_choices.Goals as goal

pub returns-in_err-variable-clause-fault : goal.returns-in_err-variable-clause-fault
returns-in_err-variable-clause-fault c =
    let choice : Choice = get_or c.as_slice-choice-items.result.now c.loop-choice.choice-index (record { variable = 0; value = 0 }) in
    let left = left_from c.args.choices.now c.as_slice-choice-items.result.now c.loop-choice.choice-index (record { variable = 0; value = 0 }) c.as_slice-choice-items.ensures.items c.loop-choice-test.true in
    let are = subst (λ rest. AreCarried c.args.file.now c.args.target.now c.args.choices.now rest c.loop-choice.carried) left c.loop-choice.invariant in
    let told = err_from_is_err_and c.from_residual.result c.from_residual.ensures.1 in
    rw (told.1, told.2) (one_lost c.args.file.now c.args.target.now c.args.choices.now (drop (c.loop-choice.choice-index + 1) c.args.choices.now) c.loop-choice.carried choice c.in_err-variable.field-0.0 are (sym c.in_err-variable.ensures.carried))

pub with-requires : goal.with-requires
with-requires c =
    let choice : Choice = get_or c.as_slice-choice-items.result.now c.loop-choice.choice-index (record { variable = 0; value = 0 }) in
    let left = left_from c.args.choices.now c.as_slice-choice-items.result.now c.loop-choice.choice-index (record { variable = 0; value = 0 }) c.as_slice-choice-items.ensures.items c.loop-choice-test.true in
    let are = subst (λ rest. AreCarried c.args.file.now c.args.target.now c.args.choices.now rest c.loop-choice.carried) left c.loop-choice.invariant in
    All-head (IsNew c.args.file.now c.args.target.now c.loop-choice.carried) choice (drop (c.loop-choice.choice-index + 1) c.args.choices.now) are.are_new c.in_ok-variable.field-0.variable
    (carried_variable_is c.args.file.now c.args.target.now choice c.in_ok-variable.field-0 (sym c.in_ok-variable.ensures.carried))

pub loop-choice-preserved : goal.loop-choice-preserved
loop-choice-preserved c =
    let choice : Choice = get_or c.as_slice-choice-items.result.now c.loop-choice.choice-index (record { variable = 0; value = 0 }) in
    let left = left_from c.args.choices.now c.as_slice-choice-items.result.now c.loop-choice.choice-index (record { variable = 0; value = 0 }) c.as_slice-choice-items.ensures.items c.loop-choice-test.true in
    let are = subst (λ rest. AreCarried c.args.file.now c.args.target.now c.args.choices.now rest c.loop-choice.carried) left c.loop-choice.invariant in
    let rest = drop (c.loop-choice.choice-index + 1) c.args.choices.now in
    subst (AreCarried c.args.file.now c.args.target.now c.args.choices.now rest) (sym c.in_ok-carried.ensures)
    (one_carried c.args.file.now c.args.target.now c.args.choices.now rest c.loop-choice.carried choice c.in_ok-variable.field-0 c.carry_choice.ensures.limits are (sym c.in_ok-variable.ensures.carried))
