use Rattle.std.proofs.Common.{◌≡◌, ◌-◌}
use Rattle.pc_rules.specs.declared.token.Sign.TheVariants.{Comma}
use Rattle.pc_rules.specs.Words.{row, listed, eat, several_from}
use Rattle.pc_rules.proofs.lists.rows.Given as goal

abbrev pub invariant-loop-turn : goal.invariant-loop-turn
invariant-loop-turn l = listed row l.fn.cursor ≡ several_from row (eat Comma) (l._turn-end - l._turn) l.found l.cursor
