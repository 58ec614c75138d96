-- The edges of the layers so far.
use Rattle.std.proofs.Common.{◌≡◌, ◌*◌, ◌≤◌, take, count_by, is_some}
use Rattle.std.specs.List.{sum_by}
use Rattle.pc_diagram.proofs.diagram.Diagram.edge_count.Given as goal

abbrev pub invariant-loop-table : goal.invariant-loop-table
invariant-loop-table l = record {
  so_far : l.edges ≡ sum_by (count_by is_some) (take l.table-index l.table-items);
  few : l.edges ≤ l.table-index * 16777216;
}
