use Rattle.std.proofs.Common.{sym, subst, refl}
use Rattle.pc_pareto.specs.Pass.{IsPass}
use Rattle.pc_pareto.proofs.WholeLemmas.{first_pass, no_limit, whole_fronts}
use Rattle.pc_pareto.proofs.fronts.fronts_of.Goals as goal

pub finish-requires-clause-pass : goal.finish-requires-clause-pass
finish-requires-clause-pass g c =
    subst (λ stages. IsPass c.args.side c.args.diagram.now c.args.costs.now c.args.choices.now 0 stages 1 1) (sym c.in_ok-stages.ensures)
    (first_pass c.args.side c.args.diagram.now c.domains.ensures.canonical c.args.costs.now c.args.choices.now)

pub returns-in-Ok-clause-fronts : goal.returns-in-Ok-clause-fronts
returns-in-Ok-clause-fronts g c = record {
  side_is = refl;
  are = whole_fronts c.args.side c.args.diagram.now c.args.costs.now c.args.choices.now c.in-Ok.stages c.in-Ok.ensures.pass;
}

pub returns-in-Ok-clause-within : goal.returns-in-Ok-clause-within
returns-in-Ok-clause-within g c = no_limit c.args.side c.args.diagram.now c.args.costs.now c.args.choices.now c.in-Ok.stages c.in-Ok.ensures.pass
