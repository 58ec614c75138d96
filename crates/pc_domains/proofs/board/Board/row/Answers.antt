-- One value more: its item, if it is listed.
use Rattle.std.proofs.Common.{sym, ◌∙◌, arith}
use Rattle.pc_diagram.specs.Fitting.{fitting}
use Rattle.pc_diagram.specs.Listing.{item}
use Rattle.pc_diagram.specs.Paths.{words}
use Rattle.pc_domains.proofs.BoardLemmas.{row_more, row_same}
use Rattle.pc_domains.proofs.SummedEnds.{summed_end}
use Rattle.pc_domains.proofs.board.Board.row.Goals as goal
use Rattle.pc_domains.proofs.board.Board.row.Goals.{in-Some+in_ok-push, in_default}

pub loop-value-preserved : goal.loop-value-preserved
loop-value-preserved g c =
    let costs = c.args.costs.now in
    let f = item costs (fitting costs (words c.args.diagram.now) c.args.self.now.choices c.args.self.now.bounds) c.args.variable in
    let value = c.loop-value.value in (
      elim c.match-branch-2.branch [
        | in-Some+in_ok-push w ↦
            row_more f value c.loop-value.row c.match-branch-2.row w.in-Some.item c.loop-value.invariant.0 (sym w.in-Some.is ∙ c.in_ok-item.ensures.listed) (w.row-is ∙ w.in_ok-push.ensures.ok)
        | in_default w ↦ w.row-is ∙ row_same f value c.loop-value.row c.loop-value.invariant.0 (sym w.in_default.is ∙ c.in_ok-item.ensures.listed)
      ],
      omega (arith, c.loop-value.invariant.1, c.item_above.ensures.steps),
    )

pub floor-floor-requires : goal.floor-floor-requires
floor-floor-requires g c =
    let board = c.args.self.now in
    summed_end c.args.diagram.now c.args.costs.now board.choices c.args.variable c.requires.board.costs_of c.requires.variable board.bounds.second board.tails c.nodes.result c.requires.board.tails c.nodes.ensures
