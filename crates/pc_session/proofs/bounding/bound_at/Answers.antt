-- The board with the bound follows, or its limit, or that no word fits.
use Rattle.std.proofs.Common.{rules, ◌≡◌, [], Some, None, subst, ap, ◌∙◌, of_z, to_z, w64}
use Rattle.pc_diagram.specs.declared.bounds.Bounds.{Bounds}
use Rattle.pc_diagram.specs.Bounds.{with_bound_on}
use Rattle.pc_calls.specs.Selection.{Selection, bound_at, with_bound}
use Rattle.pc_diagram.specs.Fitting.{fitting}
use Rattle.pc_diagram.specs.Paths.{words}
use Rattle.pc_domains.specs.BoardFaults.{IsBoardFault}
use Rattle.pc_domains.specs.LabelLimits.{limit_under}
use Rattle.pc_session.specs.Next.{asked_by}
use Rattle.pc_session.proofs.NextLemmas.{bound_limited, bound_moves, limited_is, moved_is, no_limit, none_fits, same_asked}
use Rattle.pc_session.proofs.bounding.bound_at.Goals as goal

pub too_tight-requires-clause-within : goal.too_tight-requires-clause-within
too_tight-requires-clause-within g c =
    let version = c.args.version.now in
    let board = c.args.board.now in
    let told = subst (IsBoardFault version.diagram version.costs board.choices c.with-bounds.result) c.in-Err-NoFit.field-0-is c.in-Err-NoFit.ensures.fault in
    no_limit version c.requires.board.canonical (with_bound c.args.which (Some (to_z w64 (of_z w64 c.args.most))) (asked_by board))
    (subst (λ (b : Bounds). limit_under version.diagram version.costs board.choices b.second ≡ None) c.with-bounds.ensures told.0)

pub too_tight-requires-clause-none : goal.too_tight-requires-clause-none
too_tight-requires-clause-none g c =
    let version = c.args.version.now in
    let board = c.args.board.now in
    let told = subst (IsBoardFault version.diagram version.costs board.choices c.with-bounds.result) c.in-Err-NoFit.field-0-is c.in-Err-NoFit.ensures.fault in
    none_fits version (with_bound c.args.which (Some (to_z w64 (of_z w64 c.args.most))) (asked_by board))
    (subst (λ (b : Bounds). fitting version.costs (words version.diagram) board.choices b ≡ []) c.with-bounds.ensures told.1)

pub returns-in-Ok : goal.returns-in-Ok
returns-in-Ok g c =
    let version = c.args.version.now in
    let board = c.args.board.now in
    let most : to_z w64 (of_z w64 c.args.most) ≡ c.args.most = search rules in
    let asked : Selection = with_bound c.args.which (Some c.args.most) (asked_by board) in
    let bounds : c.in-Ok.board.bounds ≡ asked.bounds = c.in-Ok.ensures.bounds ∙ c.with-bounds.ensures ∙ ap (λ z. with_bound_on c.args.which (Some z) board.bounds) most in
    moved_is version (asked_by board) (bound_at c.args.which c.args.most version.file (asked_by board)) c.in-Ok.board c.moved.result c.in-Ok.ensures.board
    (bound_moves version (asked_by board) c.args.which c.args.most c.in-Ok.board c.in-Ok.ensures.board (same_asked version c.in-Ok.board asked c.in-Ok.ensures.choices bounds))
    c.moved.ensures.moved

pub returns-in-Err : goal.returns-in-Err
returns-in-Err g c =
    let version = c.args.version.now in
    let board = c.args.board.now in
    let most : to_z w64 (of_z w64 c.args.most) ≡ c.args.most = search rules in
    let asked : Selection = with_bound c.args.which (Some c.args.most) (asked_by board) in
    limited_is version (asked_by board) asked (bound_at c.args.which c.args.most version.file (asked_by board)) c.in-Err.fault c.limited.result c.requires.board.canonical
    (λ side layer h. bound_limited version (asked_by board) c.args.which c.args.most side layer h)
    (subst (λ b. IsBoardFault version.diagram version.costs board.choices b c.in-Err.fault) (c.with-bounds.ensures ∙ ap (λ z. with_bound_on c.args.which (Some z) board.bounds) most) c.in-Err.ensures.fault)
    c.limited.ensures
