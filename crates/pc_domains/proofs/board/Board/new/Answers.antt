-- The board is made where no limit stands and the root's tails show that some word fits.
use Rattle.std.proofs.Common.{rules, sym, subst, ◌∙◌}
use Rattle.pc_domains.specs.Boards.{IsBoardOf}
use Rattle.pc_domains.specs.Sides.{AreDistinctOf}
use Rattle.pc_domains.proofs.EndLemmas.{none_fit, tails_root}
use Rattle.pc_domains.proofs.MadeLemmas.{board_made, within_both}
use Rattle.pc_domains.proofs.board.Board.new.Goals as goal

pub root_is_within-requires : goal.root_is_within-requires
root_is_within-requires g c = tails_root c.args.diagram.now c.kept_of.ensures.canonical c.args.costs.now c.args.choices.now c.args.bounds.now.second c.in_ok-tails.tails c.in_ok-tails.ensures.end

pub returns-then-not-root_is_within-clause-fault : goal.returns-then-not-root_is_within-clause-fault
returns-then-not-root_is_within-clause-fault g c =
    let are : AreDistinctOf c.args.diagram.now.domains c.args.choices.now = record { distinct = c.kept_of.ensures.distinct; choices_of = c.requires.choices } in (
      within_both c.args.diagram.now c.args.costs.now c.args.choices.now c.args.bounds.now c.in_ok-heads.ensures.within c.in_ok-tails.ensures.within,
      none_fit c.args.diagram.now c.kept_of.ensures.canonical c.args.costs.now c.args.choices.now c.args.bounds.now are c.in_ok-tails.tails c.in_ok-tails.ensures.end (sym c.root_is_within.ensures ∙ search rules),
    )

pub returns-clause-board : goal.returns-clause-board
returns-clause-board g c =
    let are : AreDistinctOf c.args.diagram.now.domains c.args.choices.now = record { distinct = c.kept_of.ensures.distinct; choices_of = c.requires.choices } in
    subst (λ l. IsBoardOf c.args.diagram.now c.args.costs.now (record { choices = l; bounds = c.args.bounds.now; heads = c.in_ok-heads.heads; tails = c.in_ok-tails.tails })) (sym c.in_ok-copy.ensures)
    (board_made c.args.diagram.now c.args.costs.now c.args.choices.now c.args.bounds.now c.kept_of.ensures.canonical c.requires.costs are c.in_ok-heads.heads c.in_ok-tails.tails
    c.in_ok-heads.ensures.end c.in_ok-tails.ensures.end c.in_ok-heads.ensures.within c.in_ok-tails.ensures.within (sym c.root_is_within.ensures ∙ search rules))
