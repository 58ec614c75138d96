use Rattle.std.proofs.Common.{◌≡◌, ◌*◌, ◌<◌, ℕ, length, Some, None}
use Rattle.std.specs.Prelude.{slice_index_or}
use Rattle.pc_diagram.specs.Costs.{pair_at}
use Rattle.pc_labels.proofs.slots.slot_weights.Given as goal

abbrev pub invariant-loop-value : goal.invariant-loop-value
invariant-loop-value l = record {
  values : length l.weights.items ≡ l.value;
  each : (value : ℕ) → value < l.value → slice_index_or l.weights.items value None ≡ Some (record { pair = pair_at l.row value; rank = value * l.scale });
}
