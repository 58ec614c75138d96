use Rattle.std.proofs.Common.{◌≡◌, [], false, take}
use Rattle.pc_build.specs.Demands.{some_meets}
use Rattle.pc_build.proofs.trie.ends.Given as goal

abbrev pub invariant-loop-row : goal.invariant-loop-row
invariant-loop-row l = some_meets (take l.row-index l.rows) [] ≡ false
