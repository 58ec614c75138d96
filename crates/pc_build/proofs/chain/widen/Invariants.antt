use Rattle.std.proofs.Common.{◌-◌}
use Rattle.pc_build.proofs.ChainLemmas.{Widened}
use Rattle.pc_build.proofs.chain.widen.Given as goal

abbrev pub invariant-loop-step : goal.invariant-loop-step
invariant-loop-step l = Widened l.fn.store l.store (l.from - l.step) l.step l.fn.below l.wide
