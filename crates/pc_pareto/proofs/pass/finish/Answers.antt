use Rattle.std.proofs.Common.{◌≡◌, ◌+◌, ◌-◌, ◌<◌, ℕ, length, map, sum, take, ap, subst, arith}
use Rattle.std.specs.List.{range_with_len}
use Rattle.pc_pareto.specs.declared.limits.TheConstants.{MOST_LABELS}
use Rattle.pc_pareto.specs.Arrivals.{slots_of, variable_at}
use Rattle.pc_pareto.specs.Faults.{IsLimitOf}
use Rattle.pc_pareto.specs.Fronts.{layer_at, sizes_from}
use Rattle.pc_pareto.specs.Pass.{IsPass}
use Rattle.pc_pareto.proofs.PassLemmas.{fault_weaker}
use Rattle.pc_pareto.proofs.WholeLemmas.{range_le, range_more, limit_here}
use Rattle.pc_pareto.proofs.pass.finish.Goals as goal

pub returns-in-Err-clause-fault : goal.returns-in-Err-clause-fault
returns-in-Err-clause-fault g c =
    let side = c.args.side in
    let raw = c.args.diagram.now in
    let costs = c.args.costs.now in
    let choices = c.args.choices.now in
    let d = c.loop-distance.distance in
    let lt : d < length raw.domains = subst (λ n. d < n) c.requires.variables c.loop-distance-test.true in
    fault_weaker (λ s l. (s ≡ side) × (l ≡ layer_at side (length raw.domains) (d + 1)) × (MOST_LABELS < sum (take ((d + 1) + 1) (sizes_from side raw costs choices))))
    (IsLimitOf side raw costs choices)
    (λ s l h. (h.0, d + 1, h.1, limit_here side raw costs choices d lt c.loop-distance.stages c.loop-distance.limit c.loop-distance.total c.loop-distance.invariant.pass h.2))
    c.in-Err.fault c.in-Err.ensures.fault

pub returns-in-Err-clause-steps : goal.returns-in-Err-clause-steps
returns-in-Err-clause-steps g c =
    let raw = c.args.diagram.now in
    let d = c.loop-distance.distance in
    let from = c.args.from in
    let f = λ (k : ℕ). slots_of raw (variable_at c.args.side (length raw.domains) k) in
    let more = range_more f from (d - from) in
    let under = c.loop-distance.invariant.from in
    let at : from + (d - from) ≡ d = omega arith in
    let here = ap f at in
    let lt : d < length raw.domains = subst (λ n. d < n) c.requires.variables c.loop-distance-test.true in
    let all = range_le f from ((d - from) + 1) (length raw.domains - from) (omega arith) in
    omega (arith, c.extend.ensures.steps, c.loop-distance.invariant.steps)

pub loop-distance-preserved : goal.loop-distance-preserved
loop-distance-preserved g c =
    let raw = c.args.diagram.now in
    let d = c.loop-distance.distance in
    let from = c.args.from in
    let f = λ (k : ℕ). slots_of raw (variable_at c.args.side (length raw.domains) k) in
    let more = range_more f from (d - from) in
    let under = c.loop-distance.invariant.from in
    let at : from + (d - from) ≡ d = omega arith in
    let here = ap f at in
    let longer : (d + 1) - from ≡ (d - from) + 1 = omega arith in
    let same = ap (λ n. sum (map f (range_with_len from n))) longer in
    record {
      pass = c.in-Ok.ensures.pass;
      steps = omega (arith, c.extend.ensures.steps, c.loop-distance.invariant.steps);
      from = omega arith;
    }

pub returns-clause-pass : goal.returns-clause-pass
returns-clause-pass g c =
    let end : c.loop-distance.distance ≡ length c.args.diagram.now.domains = omega (arith, c.requires.variables, c.requires.from) in
    (c.loop-distance.limit, c.loop-distance.total, subst (λ d. IsPass c.args.side c.args.diagram.now c.args.costs.now c.args.choices.now d c.loop-distance.stages c.loop-distance.limit c.loop-distance.total) end c.loop-distance.invariant.pass)
