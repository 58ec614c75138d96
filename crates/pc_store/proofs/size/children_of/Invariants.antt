use Rattle.std.proofs.Common.{take}
use Rattle.std.specs.List.{flat_map}
use Rattle.pc_store.specs.Each.{NamesEach}
use Rattle.pc_store.specs.Layered.{row_of}
use Rattle.pc_store.proofs.size.children_of.Given as goal

abbrev pub invariant-loop-node : goal.invariant-loop-node
invariant-loop-node l = NamesEach (flat_map (row_of l.layer) (take l.node-index l.nodes)) l.children.keys
