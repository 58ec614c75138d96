use Rattle.std.proofs.Common.{take}
use Rattle.pc_apply.specs.Levels.{Picks}
use Rattle.pc_apply.proofs.build.pick.Given as goal

abbrev pub invariant-loop-place : goal.invariant-loop-place
invariant-loop-place l = Picks l.below (take l.place-index l.places) l.ids.items
