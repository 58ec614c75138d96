use Rattle.std.proofs.Common.{◌≡◌, ◌<◌, length, ℕ, None}
use Rattle.std.specs.Prelude.{slice_index_or}
use Rattle.pc_labels.specs.Ranks.{IsRankedAnew}
use Rattle.pc_labels.proofs.layer.Layer.ranked_anew.Given as goal

abbrev pub invariant-loop-weight : goal.invariant-loop-weight
invariant-loop-weight l = record {
  nodes : length l.weights.items ≡ l.weight-index;
  each : (node : ℕ) → node < l.weight-index → IsRankedAnew l.ranks.items (slice_index_or l.self-inside.weights.items node None) (slice_index_or l.weights.items node None);
}
