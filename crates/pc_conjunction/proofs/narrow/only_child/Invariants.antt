use Rattle.std.proofs.Common.{◌≡◌, ◌<◌, ℕ, List, ◌∷◌}
use Rattle.pc_store.specs.Sets.{has}
use Rattle.pc_conjunction.proofs.narrow.only_child.Given as goal

abbrev pub invariant-loop-value : goal.invariant-loop-value
invariant-loop-value l = (value : ℕ) → value < l.value → (word : List ℕ) → has l.store l.first word ≡ has l.store l.set (value ∷ word)
