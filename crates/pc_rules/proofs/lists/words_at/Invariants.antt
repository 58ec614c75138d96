use Rattle.std.proofs.Common.{◌≡◌, ◌++◌, length}
use Rattle.pc_rules.specs.Words.{words_at}
use Rattle.pc_rules.proofs.lists.words_at.Given as goal

abbrev pub invariant-loop-word : goal.invariant-loop-word
invariant-loop-word l = words_at l.fn.cursor ≡ (l.found ++ (words_at l.cursor).0, (words_at l.cursor).1)

abbrev pub decreases-loop-word : goal.decreases-loop-word
decreases-loop-word l = length l.cursor
