use Rattle.std.proofs.Common.{rules, arith}
use Rattle.std.proofs.lemmas.Grind.{common_steps}
use Rattle.pc_rules.specs.declared.token.Sign.TheVariants.{Comma}
use Rattle.pc_rules.specs.Words.{variable, listed, eat, several_from}
use Rattle.pc_rules.proofs.Turns.{one_more, no_more}
use Rattle.pc_rules.proofs.lists.variables.Goals as goal

pub loop-turn-init : goal.loop-turn-init
unfolding listed
loop-turn-init c = first_of (search rules, grind (arith, common_steps))

pub returns-in_err-variable : goal.returns-in_err-variable
unfolding several_from
returns-in_err-variable c =
    let e = one_more (λ n. several_from variable (eat Comma) n c.loop-turn.found c.loop-turn.cursor) _ c.loop-turn._turn c.loop-turn-test.true c.loop-turn.invariant in
    first_of (search rules, grind (arith, common_steps))

pub returns-then-not-eat : goal.returns-then-not-eat
unfolding several_from
returns-then-not-eat c =
    let e = one_more (λ n. several_from variable (eat Comma) n c.loop-turn.found c.loop-turn.cursor) _ c.loop-turn._turn c.loop-turn-test.true c.loop-turn.invariant in
    first_of (search rules, grind (arith, common_steps))

pub loop-turn-preserved : goal.loop-turn-preserved
unfolding several_from
loop-turn-preserved c =
    let e = one_more (λ n. several_from variable (eat Comma) n c.loop-turn.found c.loop-turn.cursor) _ c.loop-turn._turn c.loop-turn-test.true c.loop-turn.invariant in
    first_of (search rules, grind (arith, common_steps))

pub returns : goal.returns
unfolding several_from
returns c =
    let e = no_more (λ n. several_from variable (eat Comma) n c.loop-turn.found c.loop-turn.cursor) _ c.loop-turn._turn c.loop-turn-test.false c.loop-turn.invariant in
    first_of (search rules, grind (arith, common_steps))
