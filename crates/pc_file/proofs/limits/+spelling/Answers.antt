use Rattle.std.proofs.Common.{nat_le, ◌&&◌, length, ap, sym, ◌∙◌}
use Rattle.std.specs.List.{list_all}
use Rattle.pc_file.specs.Limits.{is_spelled}
use Rattle.pc_file.proofs.RuleLemmas.{is_spelled-And, is_spelled-Or, is_spelled-AtMost}
use Rattle.pc_file.proofs.limits.+spelling.Goals as goal

pub is_spelled-returns-in-And : goal.is_spelled-returns-in-And
is_spelled-returns-in-And t c =
    let test = is_spelled c.args.variables.now in
    c.is_chain.ensures ∙ ap (λ rules. nat_le 2 (length rules) && list_all test rules) c.as_slice-in-And.ensures ∙ sym (is_spelled-And c.args.variables.now c.in-And.members) ∙ ap test (sym c.in-And.is)

pub is_spelled-returns-in-Or : goal.is_spelled-returns-in-Or
is_spelled-returns-in-Or t c =
    let test = is_spelled c.args.variables.now in
    c.is_chain-in-Or.ensures ∙ ap (λ rules. nat_le 2 (length rules) && list_all test rules) c.as_slice-in-Or.ensures ∙ sym (is_spelled-Or c.args.variables.now c.in-Or.members) ∙ ap test (sym c.in-Or.is)

pub is_spelled-returns-in-AtMost : goal.is_spelled-returns-in-AtMost
is_spelled-returns-in-AtMost t c =
    let test = is_spelled c.args.variables.now in
    let most = c.in-AtMost.most in
    c.is_at_most.ensures ∙ ap (λ rules. nat_le most 64 && nat_le 1 (length rules) && nat_le (length rules) 64 && list_all test rules) c.as_slice-in-AtMost.ensures
    ∙ sym (is_spelled-AtMost c.args.variables.now most c.in-AtMost.members) ∙ ap test (sym c.in-AtMost.is)
