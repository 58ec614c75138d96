-- What was offered is reduced on the way.
use Rattle.std.proofs.Common.{take}
use Rattle.pc_pareto.specs.Items.{IsReduced}
use Rattle.pc_pareto.specs.Stages.{candidates}
use Rattle.pc_pareto.proofs.stage.node_front.Given as goal

abbrev pub invariant-loop-arrival : goal.invariant-loop-arrival
invariant-loop-arrival l = IsReduced (candidates l.side l.scale l.row l.before (take l.arrival-index l.arrivals)) l.offered.items
