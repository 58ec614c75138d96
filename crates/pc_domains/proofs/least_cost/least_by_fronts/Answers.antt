-- By the front of the root's tails.
use Rattle.std.proofs.Common.{List, length, subst, arith}
use Rattle.pc_diagram.specs.declared.side.Side.TheVariants.{Heads, Tails}
use Rattle.pc_pareto.specs.declared.front_item.FrontItem.{FrontItem}
use Rattle.pc_domains.specs.Least.{IsLeastItem}
use Rattle.pc_domains.proofs.LeastEnds.{front_least}
use Rattle.pc_domains.proofs.SlotLemmas.{front_steps}
use Rattle.pc_domains.proofs.least_cost.least_by_fronts.Goals as goal

pub returns-clause-least : goal.returns-clause-least
returns-clause-least g c =
    front_least c.args.diagram.now c.requires.canonical c.args.costs.now c.args.choices.now c.args.bounds.now c.requires.choices c.in_ok-fronts.fronts c.in_ok-fronts.ensures.fronts c.args.which c.least_item.result
    (subst (λ (l : List FrontItem). IsLeastItem c.args.bounds.now c.args.which l (length l) c.least_item.result) c.items.ensures c.least_item.ensures)

pub returns-in_err-front_heads-clause-steps : goal.returns-in_err-front_heads-clause-steps
returns-in_err-front_heads-clause-steps g c = omega (arith, front_steps Heads c.args.diagram.now c.front_heads.new.steps c.args.steps.now c.front_heads.ensures.steps)

pub returns-in_err-fronts-clause-steps : goal.returns-in_err-fronts-clause-steps
returns-in_err-fronts-clause-steps g c = omega (arith, front_steps Heads c.args.diagram.now c.front_heads.new.steps c.args.steps.now c.front_heads.ensures.steps, front_steps Tails c.args.diagram.now c.front_tails.new.steps c.front_heads.new.steps c.front_tails.ensures.steps)

pub returns-clause-steps : goal.returns-clause-steps
returns-clause-steps g c = omega (arith, front_steps Heads c.args.diagram.now c.front_heads.new.steps c.args.steps.now c.front_heads.ensures.steps, front_steps Tails c.args.diagram.now c.front_tails.new.steps c.front_heads.new.steps c.front_tails.ensures.steps)
