-- The rows so far, changed about.
use Rattle.std.proofs.Common.{◌≡◌, take}
use Rattle.pc_domains.specs.Least.{swapped_costs}
use Rattle.pc_domains.proofs.swapped.swapped_costs.Given as goal

abbrev pub invariant-loop-row : goal.invariant-loop-row
invariant-loop-row l = l.rows ≡ swapped_costs (take l.row-index l.costs)
