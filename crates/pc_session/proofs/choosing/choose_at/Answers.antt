-- The value is listed or not, its variable is chosen or not, and the board with the choice follows, or its limit.
use Rattle.std.proofs.Common.{◌++◌, [], ◌∷◌, sym, ◌∙◌}
use Rattle.pc_calls.specs.Selection.{Selection, choose_at}
use Rattle.pc_session.specs.Next.{asked_by}
use Rattle.pc_session.proofs.NextLemmas.{asked_moves, choosing_is, chosen_is, limited_is, moved_is, unlisted_is}
use Rattle.pc_session.proofs.choosing.choose_at.Goals as goal

pub returns-then-not-lists-clause-next : goal.returns-then-not-lists-clause-next
returns-then-not-lists-clause-next g c =
    unlisted_is c.args.version.now c.args.board.now c.requires.board c.args.variable c.args.value c.requires.variable c.requires.value c.if-not-lists.ensures.listed

pub returns-then-is_chosen-clause-next : goal.returns-then-is_chosen-clause-next
returns-then-is_chosen-clause-next g c = (
  chosen_is c.args.version.now c.args.board.now c.requires.board c.args.variable c.args.value c.requires.variable c.requires.value c.if-not-lists.ensures.listed (sym c.if-is_chosen.ensures),
  c.in_ok-listing_of.ensures.listing,
)

pub returns-in-Ok-clause-next : goal.returns-in-Ok-clause-next
returns-in-Ok-clause-next g c =
    let board = c.args.board.now in
    let asked : Selection = record { choices = board.choices ++ record { variable = c.args.variable; value = c.args.value } ∷ []; bounds = board.bounds } in
    moved_is c.args.version.now (asked_by board) (choose_at c.args.variable c.args.value c.args.version.now.file (asked_by board)) c.in-Ok.board c.moved.result c.in-Ok.ensures.board
    (choosing_is c.args.version.now board c.requires.board c.args.variable c.args.value c.requires.variable c.requires.value c.if-not-lists.ensures.listed (sym c.if-is_chosen.ensures)
    ∙ asked_moves c.args.version.now c.in-Ok.board asked c.in-Ok.ensures.board c.in-Ok.ensures.choices c.in-Ok.ensures.bounds)
    c.moved.ensures.moved

pub returns-in-Err-clause-next : goal.returns-in-Err-clause-next
returns-in-Err-clause-next g c =
    let board = c.args.board.now in
    let asked : Selection = record { choices = board.choices ++ record { variable = c.args.variable; value = c.args.value } ∷ []; bounds = board.bounds } in
    limited_is c.args.version.now (asked_by board) asked (choose_at c.args.variable c.args.value c.args.version.now.file (asked_by board)) c.in-Err.fault c.limited.result c.requires.board.canonical
    (λ side layer h. choosing_is c.args.version.now board c.requires.board c.args.variable c.args.value c.requires.variable c.requires.value c.if-not-lists.ensures.listed (sym c.if-is_chosen.ensures) ∙ h)
    c.in-Err.ensures.fault c.limited.ensures
