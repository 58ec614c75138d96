-- The rule that was read is one more, and so is its printed line.
use Rattle.std.proofs.Common.{◌≡◌, ℕ, Bool, false, nat_le, List, ◌++◌, length, Option, Some, None, Result, Ok, refl, sym, ap, subst, ◌∙◌, arith}
use Rattle.std.specs.Prelude.{if◌then◌else◌}
use Rattle.std.proofs.lemmas.Bool.Decides.{nat_tests}
use Rattle.std.specs.Option.{option_or}
use Rattle.pc_file.specs.declared.rule.Rule.{Rule}
use Rattle.pc_file.specs.declared.sizes.TheConstants.{MOST_RULES}
use Rattle.pc_file.specs.declared.variable.Variable.{Variable}
use Rattle.pc_file.specs.PrintedForm.{rule_line}
use Rattle.pc_file.specs.PrintedSize.{with_line}
use Rattle.pc_file.proofs.LineSizeLemmas.{with_line-counted}
use Rattle.pc_rules.specs.declared.kind.Kind.{Kind}
use Rattle.pc_rules.specs.declared.kind.Kind.TheVariants as kind
use Rattle.pc_rules.specs.RuleText.{rule_of}
use Rattle.pc_text.specs.declared.keyword.Keyword.{Keyword}
use Rattle.pc_text.specs.declared.keyword.Keyword.TheVariants as keyword
use Rattle.pc_text.specs.Given.{Given, catalogue_of, print_more, print_rule, rules_read, variables_given}
use Rattle.pc_text.specs.Orders.{print_fault, rule_fault}
use Rattle.pc_text.specs.declared.draft.Draft.{Draft}
use Rattle.pc_text.specs.GivenVariables.{GivenVariables}
use Rattle.pc_text.specs.Draft.{given_of}
use Rattle.pc_text.specs.Told.{Tells}
use Rattle.pc_text.proofs.draft.Draft.take_rule.Goals as goal

abbrev given_with : Option Keyword → List (List ℕ) → List Variable → Option Variable → List Rule → Option ℕ → Given
given_with last costs closed open_variable rules printed = record { last = last; costs = costs; closed = closed; open_variable = open_variable; rules = rules; printed = printed }

given_same : (last : Option Keyword) (costs costs' : List (List ℕ)) (closed closed' : List Variable) (variable variable' : Option Variable) (rules rules' : List Rule) (printed printed' : Option ℕ) →
    costs ≡ costs' → closed ≡ closed' → variable ≡ variable' → rules ≡ rules' → printed ≡ printed' →
    given_with last costs closed variable rules printed ≡ given_with last costs' closed' variable' rules' printed'
given_same last costs costs' closed closed' variable variable' rules rules' printed printed' a b c d e = rw (a, b, c, d, e) refl

no_other : (large : Bool) (read : Result Rule Kind) (rule : Rule) (later : Option Kind) → large ≡ false → read ≡ Ok rule → later ≡ option_or (if large then Some kind.Size else None) (option_or (rule_fault read) later)
no_other large read rule later few ok = rw (few, ok) refl

pub returns : goal.returns
returns c =
    let old = c.args.self in
    let given = given_of old in
    let variables = variables_given given in
    let read = rule_of (catalogue_of variables) c.args.text.now in
    let rule = c.in_ok-rule.rule in
    let now = c.in_ok-self.field-0 in
    let size = c.rule_line_size-size.result in
    let closed : now ≡ record { closed = variables; open_variable = None } = c.in_ok-self.ensures in
    let closed_is : now.closed ≡ variables = ap (λ (g : GivenVariables). g.closed) closed in
    let open_is : now.open_variable ≡ None = ap (λ (g : GivenVariables). g.open_variable) closed in
    let names_are : c.names.result.now ≡ catalogue_of variables = c.names.ensures open_is ∙ ap catalogue_of closed_is in
    let ok : read ≡ Ok rule = ap (λ names. rule_of names c.args.text.now) (sym names_are) ∙ c.in_ok-rule.ensures.exact in
    let told : with_line old.printed size ≡ print_rule (Some old.printed) variables read =
    ap (with_line old.printed) c.rule_line_size-size.ensures ∙ with_line-counted old.printed (length (rule_line c.closed.result.now rule))
    ∙ ap (λ vs. print_more (Some old.printed) (rule_line vs rule)) (c.closed.ensures ∙ closed_is) ∙ ap (print_rule (Some old.printed) variables) (sym ok) in
    let rules_are : c.push.new.self ≡ old.rules ++ rules_read read = c.in_ok-push.ensures.ok ∙ ap (λ r. old.rules ++ rules_read r) (sym ok) in
    let count = c.len.ensures in
    let below = c.if-len-ge-MOST_RULES.false in
    let few : nat_le MOST_RULES (length old.rules) ≡ false = grind (arith, nat_tests) in
    let faults = ap print_fault told ∙ no_other (nat_le MOST_RULES (length old.rules)) read rule (print_fault (print_rule (Some old.printed) variables read)) few ok in
    let after = given_same (Some keyword.Rule) old.costs old.costs now.closed variables now.open_variable None c.push.new.self (old.rules ++ rules_read read)
    (with_line old.printed size) (print_rule (Some old.printed) variables read) refl closed_is open_is rules_are told in
    let counted = given_with (Some keyword.Rule) old.costs now.closed now.open_variable c.push.new.self (with_line old.printed size) in
    let all = option_or (if nat_le MOST_RULES (length old.rules) then Some kind.Size else None) (option_or (rule_fault read) (print_fault (print_rule (Some old.printed) variables read))) in
    subst (λ (g : Given). Tells c.print.result all (λ (draft : Draft). given_of draft ≡ g)) after
    (subst (λ (f : Option Kind). Tells c.print.result f (λ (draft : Draft). given_of draft ≡ counted)) faults c.print.ensures)
