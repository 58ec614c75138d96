use Rattle.std.proofs.Common.{nat_le, count_by, ap, sym, ◌∙◌}
use Rattle.std.specs.List.{list_all, list_any}
use Rattle.pc_file.specs.Rule.{holds}
use Rattle.pc_file.proofs.RuleLemmas.{holds-And, holds-Or, holds-AtMost}
use Rattle.pc_file.proofs.holding.+holding.Goals as goal

pub rule_holds-returns-in-And : goal.rule_holds-returns-in-And
rule_holds-returns-in-And t c =
    let test = holds c.args.variables.now c.args.word.now in
    c.all_hold.ensures ∙ ap (list_all test) c.as_slice-in-And.ensures ∙ sym (holds-And c.args.variables.now c.args.word.now c.in-And.members) ∙ ap test (sym c.in-And.is)

pub rule_holds-returns-in-Or : goal.rule_holds-returns-in-Or
rule_holds-returns-in-Or t c =
    let test = holds c.args.variables.now c.args.word.now in
    c.any_holds.ensures ∙ ap (list_any test) c.as_slice-in-Or.ensures ∙ sym (holds-Or c.args.variables.now c.args.word.now c.in-Or.members) ∙ ap test (sym c.in-Or.is)

pub rule_holds-returns-in-AtMost : goal.rule_holds-returns-in-AtMost
rule_holds-returns-in-AtMost t c =
    let test = holds c.args.variables.now c.args.word.now in
    let counted = c.count_holding.ensures ∙ ap (count_by test) c.as_slice-in-AtMost.ensures in
    ap (λ n. nat_le n c.in-AtMost.most) counted ∙ sym (holds-AtMost c.args.variables.now c.args.word.now c.in-AtMost.most c.in-AtMost.members) ∙ ap test (sym c.in-AtMost.is)
