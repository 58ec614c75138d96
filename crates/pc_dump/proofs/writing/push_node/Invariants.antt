-- The edges so far, each after a space.
use Rattle.std.proofs.Common.{◌≡◌, ◌++◌, take}
use Rattle.pc_diagram.specs.Levels.{level, row}
use Rattle.pc_dump.specs.Dump.{edge_word}
use Rattle.pc_dump.proofs.WriteLemmas.{spaced}
use Rattle.pc_dump.proofs.writing.push_node.Given as goal

abbrev pub invariant-loop-value : goal.invariant-loop-value
invariant-loop-value g l = l.text ≡ l.initial.text ++ spaced edge_word (take l.value (row (level l.diagram l.variable) l.node))
