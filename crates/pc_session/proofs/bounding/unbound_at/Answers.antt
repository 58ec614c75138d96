-- The cost has a bound or not, and the board without it follows.
use Rattle.std.proofs.Common.{None, sym, ap, ◌∙◌}
use Rattle.std.specs.Option.{is_some}
use Rattle.pc_calls.specs.Selection.{Selection, unbound_at, with_bound}
use Rattle.pc_session.specs.Next.{asked_by}
use Rattle.pc_session.proofs.NextLemmas.{moved_is, not_bounded_is, same_asked, unbound_moves}
use Rattle.pc_session.proofs.bounding.unbound_at.Goals as goal

pub returns-then-is_none : goal.returns-then-is_none
returns-then-is_none g c = not_bounded_is c.args.version.now (asked_by c.args.board.now) c.args.which (ap is_some (sym c.on.ensures) ∙ c.if-is_none.ensures)

pub returns-in-Ok : goal.returns-in-Ok
returns-in-Ok g c =
    let version = c.args.version.now in
    let board = c.args.board.now in
    let asked : Selection = with_bound c.args.which None (asked_by board) in
    moved_is version (asked_by board) (unbound_at c.args.which version.file (asked_by board)) c.in-Ok.board c.moved.result c.in-Ok.ensures.board
    (unbound_moves version (asked_by board) c.args.which c.in-Ok.board (ap is_some (sym c.on.ensures) ∙ c.if-is_none.ensures)
    (same_asked version c.in-Ok.board asked c.in-Ok.ensures.choices (c.in-Ok.ensures.bounds ∙ c.with-bounds.ensures)))
    c.moved.ensures.moved
