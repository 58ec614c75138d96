use Rattle.std.proofs.Common.{List, ap, sym, ◌∙◌, arith, length}
use Rattle.std.specs.Prelude.{codes, sum_by}
use Rattle.std.specs.Fmt.{decimal}
use Rattle.std.specs.List.{join_by}
use Rattle.std.proofs.lemmas.List.{take_all}
use Rattle.pc_file.specs.declared.rule.Rule.{Rule}
use Rattle.pc_file.specs.PrintedRule.{printed_variable, printed_in_place, printed_rule}
use Rattle.pc_file.specs.PrintedSize.{counted}
use Rattle.pc_file.proofs.PrintedLemmas.{length-join_by, printed-And, printed-Or, printed-Implies, printed-Same, printed-AtMost, size_of_implication, size_of_same, size_of_at_most}
use Rattle.pc_file.proofs.printed_size.+size.Goals as goal

pub rule_size-returns-in-And : goal.rule_size-returns-in-And
rule_size-returns-in-And t c =
    let variables = c.args.variables.now in
    c.members_size.ensures ∙ ap (λ rules. counted (length (join_by (printed_in_place 3 variables) (codes " and ") rules))) c.as_slice-in-And.ensures
    ∙ ap (λ text. counted (length text)) (sym (printed-And variables c.in-And.members) ∙ ap (printed_rule variables) (sym c.in-And.is))

pub rule_size-returns-in-Or : goal.rule_size-returns-in-Or
rule_size-returns-in-Or t c =
    let variables = c.args.variables.now in
    c.members_size-in-Or.ensures ∙ ap (λ rules. counted (length (join_by (printed_in_place 2 variables) (codes " or ") rules))) c.as_slice-in-Or.ensures
    ∙ ap (λ text. counted (length text)) (sym (printed-Or variables c.in-Or.members) ∙ ap (printed_rule variables) (sym c.in-Or.is))

pub rule_size-returns-in-AtMost : goal.rule_size-returns-in-AtMost
rule_size-returns-in-AtMost t c =
    let variables = c.args.variables.now in
    let members = c.in-AtMost.members in
    let list = λ (rules : List Rule). join_by (printed_in_place 0 variables) (codes ", ") rules in
    let listed = c.members_size-in-AtMost.ensures ∙ ap (λ rules. counted (length (list rules))) c.as_slice-in-AtMost.ensures in
    let text = ap (λ rule. length (printed_rule variables rule)) c.in-AtMost.is ∙ ap length (printed-AtMost variables c.in-AtMost.most members) in
    omega (arith, listed, text, size_of_at_most (decimal c.in-AtMost.most) (list members))

pub rule_size-returns-in-Implies : goal.rule_size-returns-in-Implies
rule_size-returns-in-Implies t c =
    let variables = c.args.variables.now in
    let premise = c.in-Implies.premise in
    let consequence = c.in-Implies.consequence in
    let first = c.size_in_place-in-Implies.ensures ∙ ap (λ rule. counted (length (printed_in_place 1 variables rule))) c.get-in-Implies.ensures in
    let second = c.size_in_place-in-Implies-2.ensures ∙ ap (λ rule. counted (length (printed_in_place 1 variables rule))) c.get-in-Implies-2.ensures in
    let text = ap (λ rule. length (printed_rule variables rule)) c.in-Implies.is ∙ ap length (printed-Implies variables premise consequence) in
    omega (arith, first, second, text, size_of_implication (printed_in_place 1 variables premise) (printed_in_place 1 variables consequence))

pub rule_size-returns-in-Same : goal.rule_size-returns-in-Same
rule_size-returns-in-Same t c =
    let variables = c.args.variables.now in
    let variable = c.in-Same.variable in
    let other = c.in-Same.other in
    let text = ap (λ rule. length (printed_rule variables rule)) c.in-Same.is ∙ ap length (printed-Same variables variable other) in
    omega (arith, text, size_of_same (printed_variable variables variable) (printed_variable variables other))

pub members_size-returns : goal.members_size-returns
members_size-returns t c =
    let rules = c.args.rules.now in
    let size = λ (rule : Rule). length (printed_in_place c.args.asked c.args.variables.now rule) in
    let summed = c.loop-rule.invariant ∙ ap (λ rules. counted (sum_by size rules)) (take_all c.loop-rule.rule-index rules c.loop-rule-test.false) in
    omega (arith, summed, length-join_by (printed_in_place c.args.asked c.args.variables.now) c.args.separator.now rules)
