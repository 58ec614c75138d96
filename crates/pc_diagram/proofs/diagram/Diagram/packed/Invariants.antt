-- The tables so far.
use Rattle.std.proofs.Common.{◌≡◌, take}
use Rattle.pc_diagram.proofs.diagram.Diagram.packed.Given as goal

abbrev pub invariant-loop-table : goal.invariant-loop-table
invariant-loop-table l = l.edges ≡ take l.table-index l.fn.raw.edges
