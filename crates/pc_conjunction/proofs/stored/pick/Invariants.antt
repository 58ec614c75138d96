use Rattle.std.proofs.Common.{◌≡◌, take}
use Rattle.pc_conjunction.specs.Stores.{goes_on}
use Rattle.pc_conjunction.proofs.stored.pick.Given as goal

abbrev pub invariant-loop-column : goal.invariant-loop-column
invariant-loop-column l = l.children.items ≡ goes_on (take l.column-index l.columns) l.below l.place
