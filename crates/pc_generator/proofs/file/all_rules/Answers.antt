use Rattle.std.proofs.Common.{arith}
use Rattle.pc_generator.specs.GeneratedFile.{neighbour_rule}
use Rattle.pc_generator.proofs.Counting.{one_more}
use Rattle.pc_generator.proofs.file.all_rules.Goals as goal

pub loop-place-preserved : goal.loop-place-preserved
loop-place-preserved c = one_more neighbour_rule 0 c.loop-place.place c.loop-place.place c.loop-place.rules _ _ (omega arith) c.in_ok-push.ensures.ok c.loop-place.invariant c.in_ok-neighbour_rule.ensures
