use Rattle.std.proofs.Common.{◌≡◌, ◌∷◌, ℕ, List, take}
use Rattle.pc_build.specs.Demands.{some_meets}
use Rattle.pc_build.proofs.rests.rests_after.Given as goal

abbrev pub invariant-loop-row : goal.invariant-loop-row
invariant-loop-row l = (word : List ℕ) → some_meets l.rests word ≡ some_meets (take l.row-index l.rows) (l.value ∷ word)
