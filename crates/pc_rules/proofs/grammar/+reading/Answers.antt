use Rattle.std.proofs.Common.{rules, arith}
use Rattle.std.proofs.lemmas.Grind.{common_steps}
use Rattle.pc_rules.specs.declared.token.Sign.TheVariants.{Comma}
use Rattle.pc_rules.specs.Words.{listed, several_from, eat, eat_word}
use Rattle.pc_rules.specs.Reading as spec
use Rattle.pc_rules.specs.Reading.{rule_at}
use Rattle.pc_rules.proofs.Turns.{one_more, no_more, deeper}
use Rattle.pc_rules.proofs.grammar.+reading.Goals as goal

pub rule-returns : goal.rule-returns
unfolding rule_at
rule-returns t c =
    let e = deeper (λ n. rule_at n c.args.cursor.now) c.args.depth (omega arith) in
    first_of (search rules, grind (arith, common_steps))

pub rules-loop-turn-init : goal.rules-loop-turn-init
unfolding listed
rules-loop-turn-init t c = first_of (search rules, grind (arith, common_steps))

pub members-returns-in_err-member : goal.members-returns-in_err-member
unfolding several_from
members-returns-in_err-member t c =
    let e = one_more (λ n. several_from (spec.member (rule_at c.args.depth) c.args.kind) (eat_word (spec.joint c.args.kind)) n c.loop-turn.found c.loop-turn.cursor) _ c.loop-turn._turn c.loop-turn-test.true c.loop-turn.invariant in
    first_of (search rules, grind (arith, common_steps))

pub members-returns-then-not-eat_word : goal.members-returns-then-not-eat_word
unfolding several_from
members-returns-then-not-eat_word t c =
    let e = one_more (λ n. several_from (spec.member (rule_at c.args.depth) c.args.kind) (eat_word (spec.joint c.args.kind)) n c.loop-turn.found c.loop-turn.cursor) _ c.loop-turn._turn c.loop-turn-test.true c.loop-turn.invariant in
    first_of (search rules, grind (arith, common_steps))

pub members-loop-turn-preserved : goal.members-loop-turn-preserved
unfolding several_from
members-loop-turn-preserved t c =
    let e = one_more (λ n. several_from (spec.member (rule_at c.args.depth) c.args.kind) (eat_word (spec.joint c.args.kind)) n c.loop-turn.found c.loop-turn.cursor) _ c.loop-turn._turn c.loop-turn-test.true c.loop-turn.invariant in
    first_of (search rules, grind (arith, common_steps))

pub members-returns : goal.members-returns
unfolding several_from
members-returns t c =
    let e = no_more (λ n. several_from (spec.member (rule_at c.args.depth) c.args.kind) (eat_word (spec.joint c.args.kind)) n c.loop-turn.found c.loop-turn.cursor) _ c.loop-turn._turn c.loop-turn-test.false c.loop-turn.invariant in
    first_of (search rules, grind (arith, common_steps))

pub rules-returns-in_err-rule : goal.rules-returns-in_err-rule
unfolding several_from
rules-returns-in_err-rule t c =
    let e = one_more (λ n. several_from (rule_at c.args.depth) (eat Comma) n c.loop-turn.found c.loop-turn.cursor) _ c.loop-turn._turn c.loop-turn-test.true c.loop-turn.invariant in
    first_of (search rules, grind (arith, common_steps))

pub rules-returns-then-not-eat : goal.rules-returns-then-not-eat
unfolding several_from
rules-returns-then-not-eat t c =
    let e = one_more (λ n. several_from (rule_at c.args.depth) (eat Comma) n c.loop-turn.found c.loop-turn.cursor) _ c.loop-turn._turn c.loop-turn-test.true c.loop-turn.invariant in
    first_of (search rules, grind (arith, common_steps))

pub rules-loop-turn-preserved : goal.rules-loop-turn-preserved
unfolding several_from
rules-loop-turn-preserved t c =
    let e = one_more (λ n. several_from (rule_at c.args.depth) (eat Comma) n c.loop-turn.found c.loop-turn.cursor) _ c.loop-turn._turn c.loop-turn-test.true c.loop-turn.invariant in
    first_of (search rules, grind (arith, common_steps))

pub rules-returns : goal.rules-returns
unfolding several_from
rules-returns t c =
    let e = no_more (λ n. several_from (rule_at c.args.depth) (eat Comma) n c.loop-turn.found c.loop-turn.cursor) _ c.loop-turn._turn c.loop-turn-test.false c.loop-turn.invariant in
    first_of (search rules, grind (arith, common_steps))
