use Rattle.std.proofs.Common.{take}
use Rattle.pc_build.specs.Demands.{AreRests}
use Rattle.pc_build.proofs.rests.rests_by_value.Given as goal

abbrev pub invariant-loop-row : goal.invariant-loop-row
invariant-loop-row l = AreRests (take l.row-index l.rows) l.count l.rests.items
