-- The least of the cost without the bound is told.
use Rattle.std.proofs.Common.{rules, ◌≡◌, ap, ◌∙◌, of_z, to_z, w64}
use Rattle.pc_diagram.specs.declared.bounds.Bounds.{Bounds}
use Rattle.pc_diagram.specs.Fitting.{fitting}
use Rattle.pc_diagram.specs.Least.{least_cost}
use Rattle.pc_diagram.specs.Paths.{words}
use Rattle.pc_session.proofs.NextLemmas.{too_tight_is}
use Rattle.pc_session.proofs.bounding.too_tight.Goals as goal

pub returns-in-Ok : goal.returns-in-Ok
returns-in-Ok g c =
    let version = c.args.version.now in
    let board = c.args.board.now in
    let told : to_z w64 (of_z w64 c.unwrap_or.result) ≡ c.unwrap_or.result = search rules in
    too_tight_is version board c.args.which c.args.most c.in-Ok.least (to_z w64 (of_z w64 c.unwrap_or.result)) c.requires.within c.requires.none
    (c.in-Ok.ensures.least ∙ ap (λ (b : Bounds). least_cost c.args.which version.costs (fitting version.costs (words version.diagram) board.choices b)) c.with-others.ensures)
    (told ∙ c.unwrap_or.ensures)
