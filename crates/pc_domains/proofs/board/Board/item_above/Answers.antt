-- Both ends are labels, or both are fronts.
use Rattle.std.proofs.Common.{subst}
use Rattle.pc_diagram.specs.declared.side.Side.TheVariants.{Heads, Tails}
use Rattle.pc_domains.specs.Ends.{IsEndOf}
use Rattle.pc_domains.proofs.EndLemmas.{fronts_of, labels_of}
use Rattle.pc_domains.proofs.board.Board.item_above.Goals as goal

pub listed_front_way-requires-clause-heads : goal.listed_front_way-requires-clause-heads
listed_front_way-requires-clause-heads g c =
    let board = c.args.self.now in
    fronts_of Heads c.args.diagram.now c.args.costs.now board.choices board.bounds.second c.in-Pairs-Pairs.heads
    (subst (IsEndOf Heads c.args.diagram.now c.args.costs.now board.choices board.bounds.second) c.in-Pairs-Pairs.is-0 c.requires.board.heads)

pub listed_front_way-requires-clause-tails : goal.listed_front_way-requires-clause-tails
listed_front_way-requires-clause-tails g c =
    let board = c.args.self.now in
    fronts_of Tails c.args.diagram.now c.args.costs.now board.choices board.bounds.second c.in-Pairs-Pairs.tails
    (subst (IsEndOf Tails c.args.diagram.now c.args.costs.now board.choices board.bounds.second) c.in-Pairs-Pairs.is-1 c.requires.board.tails)

pub listed_label_way-requires-clause-heads : goal.listed_label_way-requires-clause-heads
listed_label_way-requires-clause-heads g c =
    let board = c.args.self.now in
    labels_of Heads c.args.diagram.now c.args.costs.now board.choices board.bounds.second c.in-Least-Least.heads
    (subst (IsEndOf Heads c.args.diagram.now c.args.costs.now board.choices board.bounds.second) c.in-Least-Least.is-0 c.requires.board.heads)
