use Rattle.std.proofs.Common.{◌+◌, arith}
use Rattle.pc_generator.specs.GeneratedFile.{numbered_variable}
use Rattle.pc_generator.proofs.Counting.{one_more}
use Rattle.pc_generator.proofs.file.all_variables.Goals as goal

pub loop-place-preserved : goal.loop-place-preserved
loop-place-preserved c = one_more numbered_variable 1 c.loop-place.place (c.loop-place.place + 1) c.loop-place.variables _ _ (omega arith) c.in_ok-push.ensures.ok c.loop-place.invariant c.in_ok-numbered_variable.ensures
