use Rattle.std.proofs.Common.{◌≡◌, ◌∷◌, ℕ, List, take}
use Rattle.pc_build.specs.Demands.{some_meets}
use Rattle.pc_build.proofs.trie.are_free.Given as goal

abbrev pub invariant-loop-row : goal.invariant-loop-row
invariant-loop-row l = (value other : ℕ) (word : List ℕ) → some_meets (take l.row-index l.rows) (value ∷ word) ≡ some_meets (take l.row-index l.rows) (other ∷ word)
