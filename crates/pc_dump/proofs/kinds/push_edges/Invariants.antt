-- The edges that the words so far are.
use Rattle.std.proofs.Common.{map, take}
use Rattle.pc_dump.specs.Put.{AreEdgesPut}
use Rattle.pc_dump.proofs.kinds.push_edges.Given as goal

abbrev pub invariant-loop-word : goal.invariant-loop-word
invariant-loop-word l = AreEdgesPut (map (λ word. word.now) (take l.word-index l.words)) l.initial.table l.table
