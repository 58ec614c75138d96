use Rattle.std.proofs.Common.{◌≡◌, ◌++◌, map, length}
use Rattle.pc_names.specs.LineWords.{words}
use Rattle.pc_text.proofs.line_words.words.Given as goal

abbrev pub invariant-loop-word : goal.invariant-loop-word
invariant-loop-word l = map (λ word. word.now) l.found.items ++ words l.rest ≡ words l.line

abbrev pub decreases-loop-word : goal.decreases-loop-word
decreases-loop-word l = length l.rest
