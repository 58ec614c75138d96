-- The board is made of both ends brought forward.
use Rattle.std.proofs.Common.{rules, sym, ◌∙◌, arith}
use Rattle.pc_domains.proofs.EndLemmas.{none_fit}
use Rattle.pc_domains.proofs.MadeLemmas.{board_made, within_both}
use Rattle.pc_domains.proofs.SlotLemmas.{slots_of_both}
use Rattle.pc_domains.proofs.board.Board.again.Goals as goal

pub returns-in_err-tails-clause-steps : goal.returns-in_err-tails-clause-steps
returns-in_err-tails-clause-steps g c = omega (arith, c.again.ensures.steps, c.again-2.ensures.steps, slots_of_both c.args.diagram.now c.args.variable c.requires.variable)

pub returns-then-not-root_is_within-clause-fault : goal.returns-then-not-root_is_within-clause-fault
returns-then-not-root_is_within-clause-fault g c = (
  within_both c.args.diagram.now c.args.costs.now c.args.choices c.args.self.now.bounds c.in_ok-heads.ensures.within c.in_ok-tails.ensures.within,
  none_fit c.args.diagram.now c.requires.board.canonical c.args.costs.now c.args.choices c.args.self.now.bounds c.requires.choices c.in_ok-tails.tails c.in_ok-tails.ensures.end (sym c.root_is_within.ensures ∙ search rules),
)

pub returns-then-not-root_is_within-clause-steps : goal.returns-then-not-root_is_within-clause-steps
returns-then-not-root_is_within-clause-steps g c = omega (arith, c.again.ensures.steps, c.again-2.ensures.steps, slots_of_both c.args.diagram.now c.args.variable c.requires.variable)

pub returns-clause-board : goal.returns-clause-board
returns-clause-board g c =
    board_made c.args.diagram.now c.args.costs.now c.args.choices c.args.self.now.bounds c.requires.board.canonical c.requires.board.costs_of c.requires.choices c.in_ok-heads.heads c.in_ok-tails.tails
    c.in_ok-heads.ensures.end c.in_ok-tails.ensures.end c.in_ok-heads.ensures.within c.in_ok-tails.ensures.within (sym c.root_is_within.ensures ∙ search rules)

pub returns-clause-steps : goal.returns-clause-steps
returns-clause-steps g c = omega (arith, c.again.ensures.steps, c.again-2.ensures.steps, slots_of_both c.args.diagram.now c.args.variable c.requires.variable)
