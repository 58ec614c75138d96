-- No turn was missed so far.
use Rattle.std.proofs.Common.{◌≡◌, ◌≤◌, drop}
use Rattle.pc_diagram.proofs.TurnLemmas.{missed_turn}
use Rattle.pc_diagram.proofs.flawed_nodes.first_out_of_turn.Given as goal

abbrev pub invariant-loop-edge : goal.invariant-loop-edge
invariant-loop-edge l = record {
  few : l.turn ≤ l.edge-index;
  left : missed_turn 0 l.table ≡ missed_turn l.turn (drop l.edge-index l.table);
}
