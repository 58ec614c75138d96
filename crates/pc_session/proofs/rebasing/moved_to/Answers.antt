-- What is dropped is replayed, and else all moves or is refused.
use Rattle.std.proofs.Common.{◌∙◌, Ok, sym, subst, ap}
use Rattle.std.proofs.lemmas.Result.{err_from_is_err_and}
use Rattle.pc_calls.specs.Carry.{moved_to}
use Rattle.pc_calls.specs.Selection.{Selection}
use Rattle.pc_session.specs.Moving.{IsMoveFault}
use Rattle.pc_session.specs.Next.{asked_by}
use Rattle.pc_session.proofs.MovingLemmas.{selection_of}
use Rattle.pc_session.proofs.rebasing.moved_to.Goals as goal

pub returns-then-dropping-clause-moved : goal.returns-then-dropping-clause-moved
unfolding moved_to
returns-then-dropping-clause-moved g c =
    let asked : Selection = selection_of c.args.choices.now c.args.bounds.now in
    ap (λ b. moved_to b c.args.file.now c.args.target.now.file asked) c.if-dropping.true ∙ ap Ok (sym c.in_ok-replayed.ensures.replayed)

pub returns-in_err-moved_board-clause-fault : goal.returns-in_err-moved_board-clause-fault
unfolding moved_to
returns-in_err-moved_board-clause-fault g c =
    let asked : Selection = selection_of c.args.choices.now c.args.bounds.now in
    let told = err_from_is_err_and c.from_residual-in_err-moved_board.result c.from_residual-in_err-moved_board.ensures.1 in
    rw (told.1, told.2) (subst (λ b. IsMoveFault (moved_to b c.args.file.now c.args.target.now.file asked) c.in_err-moved_board.field-0.0) (sym c.if-dropping.false) c.in_err-moved_board.ensures.fault)

pub returns-clause-moved : goal.returns-clause-moved
unfolding moved_to
returns-clause-moved g c =
    let asked : Selection = selection_of c.args.choices.now c.args.bounds.now in
    ap (λ b. moved_to b c.args.file.now c.args.target.now.file asked) c.if-dropping.false
    ∙ c.in_ok-moved_board.ensures.moved
    ∙ (λ i. Ok (record { selection = asked_by c.in_ok-moved_board.field-0; dropped = sym c.new.ensures i }))
