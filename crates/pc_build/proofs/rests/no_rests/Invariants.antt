use Rattle.std.proofs.Common.{◌≡◌, [], replicate}
use Rattle.pc_build.proofs.rests.no_rests.Given as goal

abbrev pub invariant-loop-value : goal.invariant-loop-value
invariant-loop-value l = l.rests.items ≡ replicate l._value []
