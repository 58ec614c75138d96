-- The nodes that the edges so far lead to.
use Rattle.std.proofs.Common.{◌≡◌, ℕ, ◌<◌, length, get_or, take, false}
use Rattle.std.specs.List.{list_any}
use Rattle.pc_diagram.specs.Fitting.{is_number}
use Rattle.pc_diagram.proofs.flawed_nodes.reached_nodes.Given as goal

abbrev pub invariant-loop-edge : goal.invariant-loop-edge
invariant-loop-edge l = record {
  count : length l.reached.items ≡ l.count;
  so_far : (k : ℕ) → k < l.count → get_or l.reached.items k false ≡ list_any (λ target. is_number target k) (take l.edge-index l.table);
}
