use Rattle.std.proofs.Common.{◌≡◌, map, take}
use Rattle.pc_store.proofs.table.widened.Given as goal

abbrev pub invariant-loop-row : goal.invariant-loop-row
invariant-loop-row l = map (λ row. row.items) l.any.keys ≡ take l.row-index l.row-items
