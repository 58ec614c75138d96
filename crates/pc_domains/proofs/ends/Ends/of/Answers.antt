-- A pass stays within all slots.
use Rattle.std.proofs.Common.{arith}
use Rattle.pc_domains.proofs.SlotLemmas.{front_steps, label_steps}
use Rattle.pc_diagram.specs.declared.side.Side.TheVariants.{Heads, Tails}
use Rattle.pc_domains.proofs.ends.Ends.of.Goals as goal
use Rattle.pc_domains.proofs.ends.Ends.of.Goals.{in-None-Heads+in_ok-heads-in-None-Heads, in-None-Tails+in_ok-tails-in-None-Tails, in-Some-Heads+in_ok-front_heads-in-Some-Heads, in-Some-Tails+in_ok-front_tails-in-Some-Tails}

pub returns-in_err-heads-in-None-Heads-clause-steps : goal.returns-in_err-heads-in-None-Heads-clause-steps
returns-in_err-heads-in-None-Heads-clause-steps g c = label_steps c.args.diagram.now c.args.choices.now c.heads.new.steps c.args.steps.now c.requires.choices c.heads.ensures.steps

pub returns-in_err-tails-in-None-Tails-clause-steps : goal.returns-in_err-tails-in-None-Tails-clause-steps
returns-in_err-tails-in-None-Tails-clause-steps g c = label_steps c.args.diagram.now c.args.choices.now c.tails.new.steps c.args.steps.now c.requires.choices c.tails.ensures.steps

pub returns-in_err-front_heads-in-Some-Heads-clause-steps : goal.returns-in_err-front_heads-in-Some-Heads-clause-steps
returns-in_err-front_heads-in-Some-Heads-clause-steps g c = front_steps Heads c.args.diagram.now c.front_heads.new.steps c.args.steps.now c.front_heads.ensures.steps

pub returns-in_err-front_tails-in-Some-Tails-clause-steps : goal.returns-in_err-front_tails-in-Some-Tails-clause-steps
returns-in_err-front_tails-in-Some-Tails-clause-steps g c = front_steps Tails c.args.diagram.now c.front_tails.new.steps c.args.steps.now c.front_tails.ensures.steps

pub returns-clause-steps : goal.returns-clause-steps
returns-clause-steps g c =
    elim c.match-second.branch [
      | in-None-Heads+in_ok-heads-in-None-Heads w ↦ omega (arith, w.steps-is, label_steps c.args.diagram.now c.args.choices.now w.heads.new.steps c.args.steps.now c.requires.choices w.heads.ensures.steps)
      | in-None-Tails+in_ok-tails-in-None-Tails w ↦ omega (arith, w.steps-is, label_steps c.args.diagram.now c.args.choices.now w.tails.new.steps c.args.steps.now c.requires.choices w.tails.ensures.steps)
      | in-Some-Heads+in_ok-front_heads-in-Some-Heads w ↦ omega (arith, w.steps-is, front_steps Heads c.args.diagram.now w.front_heads.new.steps c.args.steps.now w.front_heads.ensures.steps)
      | in-Some-Tails+in_ok-front_tails-in-Some-Tails w ↦ omega (arith, w.steps-is, front_steps Tails c.args.diagram.now w.front_tails.new.steps c.args.steps.now w.front_tails.ensures.steps)
    ]
