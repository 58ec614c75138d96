-- A pass brought forward stays within the slots of the variables on the far side of the one that changed.
use Rattle.std.proofs.Common.{◌+◌, ◌≤◌, sym, subst, ap, arith}
use Rattle.pc_domains.specs.Slots.{slots_again}
use Rattle.pc_domains.proofs.SlotLemmas.{head_front_steps, head_label_steps, tail_front_steps, tail_label_steps}
use Rattle.pc_domains.proofs.ends.Ends.again.Goals as goal
use Rattle.pc_domains.proofs.ends.Ends.again.Goals.{in-Least-Heads+in_ok-heads_again-in-Least-Heads, in-Least-Tails+in_ok-tails_again-in-Least-Tails, in-Pairs-Heads+in_ok-heads_again-in-Pairs-Heads, in-Pairs-Tails+in_ok-tails_again-in-Pairs-Tails}

pub returns-in_err-heads_again-in-Least-Heads-clause-steps : goal.returns-in_err-heads_again-in-Least-Heads-clause-steps
returns-in_err-heads_again-in-Least-Heads-clause-steps g c =
    subst (λ s. c.heads_again.new.steps ≤ c.args.steps.now + slots_again s c.args.diagram.now c.args.variable) (sym c.in-Least-Heads.is-1)
    (head_label_steps c.args.diagram.now c.args.choices.now c.args.variable c.heads_again.new.steps c.args.steps.now c.requires.choices c.requires.variable c.heads_again.ensures.steps)

pub returns-in_err-tails_again-in-Least-Tails-clause-steps : goal.returns-in_err-tails_again-in-Least-Tails-clause-steps
returns-in_err-tails_again-in-Least-Tails-clause-steps g c =
    subst (λ s. c.tails_again.new.steps ≤ c.args.steps.now + slots_again s c.args.diagram.now c.args.variable) (sym c.in-Least-Tails.is-1)
    (tail_label_steps c.args.diagram.now c.args.choices.now c.args.variable c.tails_again.new.steps c.args.steps.now c.requires.choices c.tails_again.ensures.steps)

pub returns-in_err-heads_again-in-Pairs-Heads-clause-steps : goal.returns-in_err-heads_again-in-Pairs-Heads-clause-steps
returns-in_err-heads_again-in-Pairs-Heads-clause-steps g c =
    subst (λ s. c.heads_again-in-Pairs-Heads.new.steps ≤ c.args.steps.now + slots_again s c.args.diagram.now c.args.variable) (sym c.in-Pairs-Heads.is-1)
    (head_front_steps c.args.diagram.now c.args.variable c.heads_again-in-Pairs-Heads.new.steps c.args.steps.now c.requires.variable c.heads_again-in-Pairs-Heads.ensures.steps)

pub returns-in_err-tails_again-in-Pairs-Tails-clause-steps : goal.returns-in_err-tails_again-in-Pairs-Tails-clause-steps
returns-in_err-tails_again-in-Pairs-Tails-clause-steps g c =
    subst (λ s. c.tails_again-in-Pairs-Tails.new.steps ≤ c.args.steps.now + slots_again s c.args.diagram.now c.args.variable) (sym c.in-Pairs-Tails.is-1)
    (tail_front_steps c.args.diagram.now c.args.variable c.tails_again-in-Pairs-Tails.new.steps c.args.steps.now c.requires.variable c.tails_again-in-Pairs-Tails.ensures.steps)

pub returns-clause-steps : goal.returns-clause-steps
returns-clause-steps g c =
    elim c.match-self.branch [
      | in-Least-Heads+in_ok-heads_again-in-Least-Heads w ↦ omega (
        arith,
        w.steps-is,
        ap (λ s. slots_again s c.args.diagram.now c.args.variable) w.in-Least-Heads.is-1,
        head_label_steps c.args.diagram.now c.args.choices.now c.args.variable w.heads_again.new.steps c.args.steps.now c.requires.choices c.requires.variable w.heads_again.ensures.steps,
      )
      | in-Least-Tails+in_ok-tails_again-in-Least-Tails w ↦ omega (
        arith,
        w.steps-is,
        ap (λ s. slots_again s c.args.diagram.now c.args.variable) w.in-Least-Tails.is-1,
        tail_label_steps c.args.diagram.now c.args.choices.now c.args.variable w.tails_again.new.steps c.args.steps.now c.requires.choices w.tails_again.ensures.steps,
      )
      | in-Pairs-Heads+in_ok-heads_again-in-Pairs-Heads w ↦ omega (
        arith,
        w.steps-is,
        ap (λ s. slots_again s c.args.diagram.now c.args.variable) w.in-Pairs-Heads.is-1,
        head_front_steps c.args.diagram.now c.args.variable w.heads_again-in-Pairs-Heads.new.steps c.args.steps.now c.requires.variable w.heads_again-in-Pairs-Heads.ensures.steps,
      )
      | in-Pairs-Tails+in_ok-tails_again-in-Pairs-Tails w ↦ omega (
        arith,
        w.steps-is,
        ap (λ s. slots_again s c.args.diagram.now c.args.variable) w.in-Pairs-Tails.is-1,
        tail_front_steps c.args.diagram.now c.args.variable w.tails_again-in-Pairs-Tails.new.steps c.args.steps.now c.requires.variable w.tails_again-in-Pairs-Tails.ensures.steps,
      )
    ]
