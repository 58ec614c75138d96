use Rattle.std.proofs.Common.{◌≡◌, ◌+◌, ◌<◌, ◌≤◌, ℕ, [], length, take, get_or}
use Rattle.pc_pareto.specs.declared.limits.TheConstants.{MOST_LABELS}
use Rattle.pc_pareto.specs.Items.{IsFrontOf}
use Rattle.pc_pareto.specs.Stages.{candidates, stage_size}
use Rattle.pc_pareto.proofs.stage.next_stage.Given as goal

abbrev pub invariant-loop-into : goal.invariant-loop-into
invariant-loop-into l = record {
  count : length l.stage ≡ l.into-index;
  fronts : (node : ℕ) → node < l.into-index → IsFrontOf (candidates l.side l.scale l.row l.before (get_or l.arrivals node [])) (get_or l.stage node []);
  total : l.total ≡ l.fn.total + stage_size l.side l.scale l.row l.before (take l.into-index l.arrivals);
  within : l.total ≤ MOST_LABELS;
}
