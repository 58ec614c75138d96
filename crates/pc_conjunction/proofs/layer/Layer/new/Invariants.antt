use Rattle.std.proofs.Common.{◌≡◌, ◌∷◌, [], List, ℕ, replicate}
use Rattle.pc_conjunction.proofs.layer.Layer.new.Given as goal

abbrev pub invariant-loop-value : goal.invariant-loop-value
invariant-loop-value l = l.columns.items ≡ replicate {A = List ℕ} l._value (0 ∷ 1 ∷ [])
