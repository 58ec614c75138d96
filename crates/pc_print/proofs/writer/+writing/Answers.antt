use Rattle.std.proofs.Common.{◌≡◌, List, ℕ, ◌++◌, codes, OnOk, append_assoc, ap, sym, subst, ◌∙◌}
use Rattle.std.specs.Prelude.{decimal}
use Rattle.std.specs.List.{join_by}
use Rattle.pc_file.specs.declared.rule.Rule.{Rule}
use Rattle.pc_file.specs.PrintedRule.{printed_in_place, printed_rule}
use Rattle.pc_print.proofs.PrintedForms.{printed-And, printed-Or, printed-Implies, printed-AtMost}
use Rattle.pc_print.proofs.writer.+writing.Goals as goal

pub push_form-returns-in-And-clause-ok : goal.push_form-returns-in-And-clause-ok
push_form-returns-in-And-clause-ok t c =
    let variables = c.args.variables.now in
    let same = ap (join_by (printed_in_place 3 variables) (codes " and ")) c.as_slice-in-And.ensures ∙ sym (printed-And variables c.in-And.members) ∙ ap (printed_rule variables) (sym c.in-And.is) in
    subst (λ (l : List ℕ). OnOk c.push_members.result (c.push_members.new.text ≡ c.args.text.now ++ l)) same c.push_members.ensures.ok

pub push_form-returns-in-Or-clause-ok : goal.push_form-returns-in-Or-clause-ok
push_form-returns-in-Or-clause-ok t c =
    let variables = c.args.variables.now in
    let same = ap (join_by (printed_in_place 2 variables) (codes " or ")) c.as_slice-in-Or.ensures ∙ sym (printed-Or variables c.in-Or.members) ∙ ap (printed_rule variables) (sym c.in-Or.is) in
    subst (λ (l : List ℕ). OnOk c.push_members-in-Or.result (c.push_members-in-Or.new.text ≡ c.args.text.now ++ l)) same c.push_members-in-Or.ensures.ok

pub push_form-returns-in-AtMost-clause-ok : goal.push_form-returns-in-AtMost-clause-ok
push_form-returns-in-AtMost-clause-ok t c =
    let variables = c.args.variables.now in
    let most = c.in-AtMost.most in
    let same =
    ap (λ (members : List Rule). codes "atmost " ++ decimal most ++ codes " (" ++ join_by (printed_in_place 0 variables) (codes ", ") members ++ codes ")") c.as_slice-in-AtMost.ensures
    ∙ sym (printed-AtMost variables most c.in-AtMost.members) ∙ ap (printed_rule variables) (sym c.in-AtMost.is) in
    subst (λ (l : List ℕ). OnOk c.push_at_most.result (c.push_at_most.new.text ≡ c.args.text.now ++ l)) same c.push_at_most.ensures.ok

pub push_form-returns-in_ok-extend_from_slice-in-Implies-clause-ok : goal.push_form-returns-in_ok-extend_from_slice-in-Implies-clause-ok
push_form-returns-in_ok-extend_from_slice-in-Implies-clause-ok t c =
    let variables = c.args.variables.now in
    let text = c.args.text.now in
    let first = printed_in_place 1 variables c.get-in-Implies.result.now in
    let second = printed_in_place 1 variables c.get-in-Implies-2.result.now in
    let same =
    ap (λ (l : List ℕ). l ++ second) (c.in_ok-extend_from_slice-in-Implies.ensures.ok ∙ ap (λ (l : List ℕ). l ++ codes " => ") c.in_ok-push_in_place-in-Implies.ensures.ok ∙ append_assoc text first (codes " => "))
    ∙ append_assoc text (first ++ codes " => ") second
    ∙ ap (λ (r : Rule). text ++ (printed_in_place 1 variables r ++ codes " => " ++ second)) c.get-in-Implies.ensures
    ∙ ap (λ (r : Rule). text ++ (printed_in_place 1 variables c.in-Implies.premise ++ codes " => " ++ printed_in_place 1 variables r)) c.get-in-Implies-2.ensures
    ∙ ap (λ (l : List ℕ). text ++ l) (sym (printed-Implies variables c.in-Implies.premise c.in-Implies.consequence) ∙ ap (printed_rule variables) (sym c.in-Implies.is)) in
    subst (λ (l : List ℕ). OnOk c.push_in_place-in-Implies-2.result (c.push_in_place-in-Implies-2.new.text ≡ l)) same c.push_in_place-in-Implies-2.ensures.ok
