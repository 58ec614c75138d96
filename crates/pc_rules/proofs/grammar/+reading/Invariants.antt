use Rattle.std.proofs.Common.{◌≡◌, ◌+◌, ◌-◌, ◌*◌}
use Rattle.pc_rules.specs.declared.token.Sign.TheVariants.{Comma}
use Rattle.pc_rules.specs.Words.{listed, several, several_from, eat, eat_word}
use Rattle.pc_rules.specs.Reading as spec
use Rattle.pc_rules.proofs.Levels.{level}
use Rattle.pc_rules.proofs.grammar.+reading.Given as goal

abbrev pub decreases-rule : goal.decreases-rule
decreases-rule l = 16 * l.depth

abbrev pub decreases-rules : goal.decreases-rules
decreases-rules l = 16 * l.depth + 1

abbrev pub decreases-parenthesized : goal.decreases-parenthesized
decreases-parenthesized l = 16 * l.depth + 1

abbrev pub decreases-at_most : goal.decreases-at_most
decreases-at_most l = 16 * l.depth + 2

abbrev pub decreases-named : goal.decreases-named
decreases-named l = 16 * l.depth + 3

abbrev pub decreases-atom : goal.decreases-atom
decreases-atom l = 16 * l.depth + 4

abbrev pub decreases-negation : goal.decreases-negation
decreases-negation l = 16 * l.depth + 5

abbrev pub decreases-member : goal.decreases-member
decreases-member l = 16 * l.depth + 6 + level l.kind

abbrev pub decreases-members : goal.decreases-members
decreases-members l = 16 * l.depth + 7 + level l.kind

abbrev pub decreases-chain : goal.decreases-chain
decreases-chain l = 16 * l.depth + 8 + level l.kind

abbrev pub decreases-implication : goal.decreases-implication
decreases-implication l = 16 * l.depth + 12

abbrev pub invariant-members-loop-turn : goal.invariant-members-loop-turn
invariant-members-loop-turn l =
    let item = spec.member (spec.rule_at l.depth) l.kind in
    let between = eat_word (spec.joint l.kind) in
    several item between l.fn.cursor ≡ several_from item between (l._turn-end - l._turn) l.found l.cursor

abbrev pub invariant-rules-loop-turn : goal.invariant-rules-loop-turn
invariant-rules-loop-turn l = listed (spec.rule_at l.depth) l.fn.cursor ≡ several_from (spec.rule_at l.depth) (eat Comma) (l._turn-end - l._turn) l.found l.cursor
