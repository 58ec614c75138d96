use Rattle.std.proofs.Common.{◌≡◌, ◌-◌}
use Rattle.pc_rules.specs.declared.token.Sign.TheVariants.{Comma}
use Rattle.pc_rules.specs.Words.{word, listed, eat, several_from}
use Rattle.pc_rules.proofs.lists.words.Given as goal

abbrev pub invariant-loop-turn : goal.invariant-loop-turn
invariant-loop-turn l = listed word l.fn.cursor ≡ several_from word (eat Comma) (l._turn-end - l._turn) l.found l.cursor
