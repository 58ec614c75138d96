-- The pairs so far, changed about.
use Rattle.std.proofs.Common.{◌≡◌, map, take}
use Rattle.pc_domains.specs.Least.{swapped}
use Rattle.pc_domains.proofs.swapped.swapped_row.Given as goal

abbrev pub invariant-loop-pair : goal.invariant-loop-pair
invariant-loop-pair l = l.pairs ≡ map swapped (take l.pair-index l.row)
