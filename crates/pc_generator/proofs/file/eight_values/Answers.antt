use Rattle.std.proofs.Common.{arith}
use Rattle.pc_generator.specs.GeneratedFile.{numbered_value}
use Rattle.pc_generator.proofs.Counting.{one_more}
use Rattle.pc_generator.proofs.file.eight_values.Goals as goal

pub loop-number-preserved : goal.loop-number-preserved
loop-number-preserved c = one_more numbered_value 0 c.loop-number.number c.loop-number.number c.loop-number.values _ _ (omega arith) c.in_ok-push.ensures.ok c.loop-number.invariant c.in_ok-numbered_value.ensures
