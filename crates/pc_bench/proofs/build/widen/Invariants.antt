use Rattle.std.proofs.Common.{◌-◌}
use Rattle.pc_store.specs.Sets.{IsIdAt, Keeps}
use Rattle.pc_bench.proofs.build.widen.Given as goal

abbrev pub invariant-loop-step : goal.invariant-loop-step
invariant-loop-step l = record {
  is_id : IsIdAt l.store (l.from - l.step) l.wide;
  keeps : Keeps l.fn.store l.store;
}
