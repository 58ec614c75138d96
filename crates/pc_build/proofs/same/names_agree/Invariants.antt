use Rattle.std.proofs.Common.{◌+◌, ◌-◌}
use Rattle.pc_build.proofs.SameLemmas.{Rests}
use Rattle.pc_build.proofs.same.names_agree.Given as goal

abbrev pub invariant-loop-value : goal.invariant-loop-value
invariant-loop-value l = Rests l.fn.store l.store (l.first + 1) (l.second - (l.first + 1)) l.values l.others l.value-index l.rests.items
