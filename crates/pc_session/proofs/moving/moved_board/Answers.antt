-- What is carried over has its board at the target, or the first refusal stands.
use Rattle.std.proofs.Common.{◌≡◌, Ok, Err, sym, subst}
use Rattle.std.proofs.lemmas.Result.{err_from_is_err_and}
use Rattle.pc_file.specs.Contents.{Contents}
use Rattle.pc_calls.specs.Carry.{carry_bounds, carry_choices}
use Rattle.pc_calls.specs.Selection.{Selection}
use Rattle.pc_session.specs.Moving.{IsMoveFault}
use Rattle.pc_session.proofs.MovingLemmas.{bound_lost, carry_is, carry_refused, choice_fault, moves, refused, selection_of}
use Rattle.pc_session.proofs.NextLemmas.{same_asked}
use Rattle.pc_session.proofs.moving.moved_board.Goals as goal

pub returns-in_err-choices-clause-fault : goal.returns-in_err-choices-clause-fault
returns-in_err-choices-clause-fault g c =
    let asked : Selection = selection_of c.args.choices.now c.args.bounds.now in
    let told = err_from_is_err_and c.from_residual.result c.from_residual.ensures.1 in
    let lost = subst (λ (f : Contents). IsMoveFault (carry_choices c.args.file.now f c.args.choices.now) c.in_err-choices.field-0.0) c.file-target_file.ensures c.in_err-choices.ensures.fault in
    rw (told.1, told.2) (choice_fault c.args.file.now c.args.target.now.file asked c.in_err-choices.field-0.0 lost)

pub returns-in_err-bounds-clause-fault : goal.returns-in_err-bounds-clause-fault
returns-in_err-bounds-clause-fault g c =
    let asked : Selection = selection_of c.args.choices.now c.args.bounds.now in
    let told = err_from_is_err_and c.from_residual-in_err-bounds.result c.from_residual-in_err-bounds.ensures.1 in
    let choices = subst (λ (f : Contents). carry_choices c.args.file.now f c.args.choices.now ≡ Ok c.in_ok-choices.choices) c.file-target_file.ensures c.in_ok-choices.ensures.carried in
    let lost = subst (λ (f : Contents). Err c.in_err-bounds.field-0.0 ≡ carry_bounds c.args.file.now f c.args.bounds.now) c.file-target_file.ensures c.in_err-bounds.ensures in
    rw (told.1, told.2) (carry_refused c.args.file.now c.args.target.now.file asked c.in_err-bounds.field-0.0 (bound_lost c.args.file.now c.args.target.now.file asked c.in_ok-choices.choices c.in_err-bounds.field-0.0 choices (sym lost)))

pub returns-in_err-new-clause-fault : goal.returns-in_err-new-clause-fault
returns-in_err-new-clause-fault g c =
    let asked : Selection = selection_of c.args.choices.now c.args.bounds.now in
    let told = err_from_is_err_and c.from_residual-in_err-new.result c.from_residual-in_err-new.ensures.1 in
    let choices = subst (λ (f : Contents). carry_choices c.args.file.now f c.args.choices.now ≡ Ok c.in_ok-choices.choices) c.file-target_file.ensures c.in_ok-choices.ensures.carried in
    let bounds = subst (λ (f : Contents). Ok c.in_ok-bounds.bounds ≡ carry_bounds c.args.file.now f c.args.bounds.now) c.file-target_file.ensures c.in_ok-bounds.ensures in
    let carried = carry_is c.args.file.now c.args.target.now.file asked c.in_ok-choices.choices c.in_ok-bounds.bounds choices (sym bounds) in
    rw (told.1, told.2) (refused c.args.file.now c.args.target.now asked (selection_of c.in_ok-choices.choices c.in_ok-bounds.bounds) carried c.canonical_of.ensures c.in_err-new.field-0.0 c.in_err-new.ensures.fault)

pub returns-clause-moved : goal.returns-clause-moved
returns-clause-moved g c =
    let asked : Selection = selection_of c.args.choices.now c.args.bounds.now in
    let choices = subst (λ (f : Contents). carry_choices c.args.file.now f c.args.choices.now ≡ Ok c.in_ok-choices.choices) c.file-target_file.ensures c.in_ok-choices.ensures.carried in
    let bounds = subst (λ (f : Contents). Ok c.in_ok-bounds.bounds ≡ carry_bounds c.args.file.now f c.args.bounds.now) c.file-target_file.ensures c.in_ok-bounds.ensures in
    let carried = carry_is c.args.file.now c.args.target.now.file asked c.in_ok-choices.choices c.in_ok-bounds.bounds choices (sym bounds) in
    moves c.args.file.now c.args.target.now asked (selection_of c.in_ok-choices.choices c.in_ok-bounds.bounds) carried c.in_ok-new.field-0 c.in_ok-new.ensures.board
    (same_asked c.args.target.now c.in_ok-new.field-0 (selection_of c.in_ok-choices.choices c.in_ok-bounds.bounds) c.in_ok-new.ensures.choices c.in_ok-new.ensures.bounds)
