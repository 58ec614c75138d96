use Rattle.std.proofs.Common.{◌≡◌, map, take}
use Rattle.pc_store.proofs.id.write_nodes.Given as goal

abbrev pub invariant-loop-child : goal.invariant-loop-child
invariant-loop-child l = l.row.items ≡ map (λ child. child.node) (take l.child-index l.children)
