-- The numbers of the edges so far.
use Rattle.std.proofs.Common.{◌≡◌, take, map}
use Rattle.pc_diagram.specs.Edges.{edge_of}
use Rattle.pc_diagram.proofs.table.Table.new.Given as goal

abbrev pub invariant-loop-edge : goal.invariant-loop-edge
invariant-loop-edge l = map edge_of l.numbers.items ≡ take l.edge-index l.edges
