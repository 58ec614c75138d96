use Rattle.std.proofs.Common.{slice_index, take}
use Rattle.pc_store.specs.Sets.{domains_of}
use Rattle.pc_apply.proofs.BuildLemmas.{Building}
use Rattle.pc_apply.proofs.build.carry_out_all.Given as goal

abbrev pub invariant-loop-plan : goal.invariant-loop-plan
invariant-loop-plan l = Building l.fn.store l.store l.layer l.targets (slice_index (domains_of l.fn.store) l.layer) l.below (take l.plan-index l.plans) l.ids.items
