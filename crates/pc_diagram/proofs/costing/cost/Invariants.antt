-- The sum so far, and its range.
use Rattle.std.proofs.Common.{◌≡◌, ◌*◌, take, pos, neg_ℤ, ◌≤ℤ◌}
use Rattle.pc_diagram.specs.Costs.{cost}
use Rattle.pc_diagram.proofs.costing.cost.Given as goal

abbrev pub invariant-loop-variable : goal.invariant-loop-variable
invariant-loop-variable l = record {
  so_far : l.sum ≡ cost (take l.variable l.costs) l.which l.word;
  low : neg_ℤ (pos (1000000000 * l.variable)) ≤ℤ l.sum;
  high : l.sum ≤ℤ pos (1000000000 * l.variable);
}
