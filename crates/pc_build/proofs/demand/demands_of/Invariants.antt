use Rattle.std.proofs.Common.{length, take}
use Rattle.std.specs.List.{zip}
use Rattle.pc_build.proofs.DemandLemmas.{Asked}
use Rattle.pc_build.proofs.demand.demands_of.Given as goal

abbrev pub invariant-loop-variable : goal.invariant-loop-variable
invariant-loop-variable l = Asked l.span (take (length l.yielded) (zip l.variables l.row)) l.demands.items
