-- The variable is chosen or not, and the board without the choice follows, or its limit.
use Rattle.std.proofs.Common.{sym, ◌∙◌}
use Rattle.pc_diagram.specs.Choices.{without}
use Rattle.pc_calls.specs.Selection.{Selection, retract_at}
use Rattle.pc_session.specs.Next.{asked_by}
use Rattle.pc_session.proofs.NextLemmas.{asked_moves, limited_is, moved_is, not_chosen_is, retracting_is}
use Rattle.pc_session.proofs.choosing.retract_at.Goals as goal

pub returns-then-not-is_chosen-clause-next : goal.returns-then-not-is_chosen-clause-next
returns-then-not-is_chosen-clause-next g c = not_chosen_is c.args.version.now c.args.board.now c.args.variable (sym c.if-not-is_chosen.ensures)

pub returns-in-Ok-clause-next : goal.returns-in-Ok-clause-next
returns-in-Ok-clause-next g c =
    let board = c.args.board.now in
    let asked : Selection = record { choices = without board.choices c.args.variable; bounds = board.bounds } in
    moved_is c.args.version.now (asked_by board) (retract_at c.args.variable c.args.version.now.file (asked_by board)) c.in-Ok.board c.moved.result c.in-Ok.ensures.board
    (retracting_is c.args.version.now board c.args.variable (sym c.if-not-is_chosen.ensures)
    ∙ asked_moves c.args.version.now c.in-Ok.board asked c.in-Ok.ensures.board c.in-Ok.ensures.choices c.in-Ok.ensures.bounds)
    c.moved.ensures.moved

pub returns-in-Err-clause-next : goal.returns-in-Err-clause-next
returns-in-Err-clause-next g c =
    let board = c.args.board.now in
    let asked : Selection = record { choices = without board.choices c.args.variable; bounds = board.bounds } in
    limited_is c.args.version.now (asked_by board) asked (retract_at c.args.variable c.args.version.now.file (asked_by board)) c.in-Err.fault c.limited.result c.requires.board.canonical
    (λ side layer h. retracting_is c.args.version.now board c.args.variable (sym c.if-not-is_chosen.ensures) ∙ h)
    c.in-Err.ensures.fault c.limited.ensures
