use Rattle.std.proofs.Common.{◌+◌, ◌<◌, ◌≤◌, [], List, length, get_or, take, sum_by, sym, subst, refl}
use Rattle.pc_pareto.specs.declared.front_item.FrontItem.{FrontItem}
use Rattle.pc_pareto.specs.declared.limits.TheConstants.{MOST_LABELS}
use Rattle.pc_pareto.specs.Arrivals.{variable_at, slots_from}
use Rattle.pc_pareto.specs.Kept.{IsKept}
use Rattle.pc_pareto.specs.Pass.{IsPass}
use Rattle.pc_pareto.proofs.AgainLemmas.{from_there, kept_few, last_few, kept_pass}
use Rattle.pc_pareto.proofs.WholeLemmas.{no_limit, whole_fronts}
use Rattle.pc_pareto.proofs.fronts.Fronts.again.Goals as goal

pub kept_stages-requires-clause-distance : goal.kept_stages-requires-clause-distance
kept_stages-requires-clause-distance g c =
    let were = c.requires.made in
    subst (λ (st : List (List (List FrontItem))). c.variable_at-from.result < length st) (sym c.as_slice.ensures)
    (subst (λ k. k < length c.args.self.now.stages) (sym c.variable_at-from.ensures.is)
    (from_there c.args.side c.args.diagram.now c.args.costs.now were.before c.args.choices.now c.args.variable c.args.self.now.stages were.made.are were.within were.agree c.requires.variable))

pub kept_stages-requires-clause-few : goal.kept_stages-requires-clause-few
kept_stages-requires-clause-few g c =
    let were = c.requires.made in
    subst (λ (st : List (List (List FrontItem))). sum_by (sum_by length) (take (c.variable_at-from.result + 1) st) ≤ MOST_LABELS) (sym c.as_slice.ensures)
    (subst (λ k. sum_by (sum_by length) (take (k + 1) c.args.self.now.stages) ≤ MOST_LABELS) (sym c.variable_at-from.ensures.is)
    (kept_few c.args.side c.args.diagram.now c.args.costs.now were.before c.args.choices.now c.args.variable c.args.self.now.stages were.made.are were.within were.agree c.requires.variable))

pub kept_stages-requires-clause-last : goal.kept_stages-requires-clause-last
kept_stages-requires-clause-last g c =
    let were = c.requires.made in
    subst (λ (st : List (List (List FrontItem))). sum_by length (get_or st c.variable_at-from.result []) ≤ MOST_LABELS) (sym c.as_slice.ensures)
    (subst (λ k. sum_by length (get_or c.args.self.now.stages k []) ≤ MOST_LABELS) (sym c.variable_at-from.ensures.is)
    (last_few c.args.side c.args.diagram.now c.args.costs.now were.before c.args.choices.now c.args.variable c.args.self.now.stages were.made.are were.within were.agree c.requires.variable))

pub finish-requires-clause-pass : goal.finish-requires-clause-pass
finish-requires-clause-pass g c =
    let were = c.requires.made in
    let stages = c.args.self.now.stages in
    let n = length c.args.diagram.now.domains in
    let kept = c.in_ok-stages.stages in
    let limit = c.in_ok-stages.limit in
    let total = c.in_ok-stages.total in
    let from_is = c.variable_at-from.ensures.is in
    let is : IsKept stages (variable_at c.args.side n c.args.variable) kept limit total =
    subst (λ k. IsKept stages k kept limit total) from_is (subst (λ (st : List (List (List FrontItem))). IsKept st c.variable_at-from.result kept limit total) c.as_slice.ensures c.in_ok-stages.ensures) in
    subst (λ k. IsPass c.args.side c.args.diagram.now c.args.costs.now c.args.choices.now k kept limit total) (sym from_is)
    (kept_pass c.args.side c.args.diagram.now c.args.costs.now were.before c.args.choices.now c.args.variable stages were.made.are were.within were.agree c.requires.variable kept limit total is)

pub returns-in-Ok-clause-fronts : goal.returns-in-Ok-clause-fronts
returns-in-Ok-clause-fronts g c = record {
  side_is = refl;
  are = whole_fronts c.args.side c.args.diagram.now c.args.costs.now c.args.choices.now c.in-Ok.stages c.in-Ok.ensures.pass;
}

pub returns-in-Ok-clause-within : goal.returns-in-Ok-clause-within
returns-in-Ok-clause-within g c = no_limit c.args.side c.args.diagram.now c.args.costs.now c.args.choices.now c.in-Ok.stages c.in-Ok.ensures.pass

pub returns-in-Ok-clause-steps : goal.returns-in-Ok-clause-steps
returns-in-Ok-clause-steps g c = subst (λ k. c.finish.new.steps ≤ c.args.steps.now + slots_from c.args.side c.args.diagram.now k) c.variable_at-from.ensures.is c.finish.ensures.steps

pub returns-in-Err-clause-steps : goal.returns-in-Err-clause-steps
returns-in-Err-clause-steps g c = subst (λ k. c.finish.new.steps ≤ c.args.steps.now + slots_from c.args.side c.args.diagram.now k) c.variable_at-from.ensures.is c.finish.ensures.steps
