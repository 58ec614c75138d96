use Rattle.std.proofs.Common.{◌≡◌, true, subst}
use Rattle.pc_file.specs.declared.rule.Rule.{Rule}
use Rattle.pc_file.specs.Limits.{is_rule}
use Rattle.pc_rules.specs.Parsed.{Gives}
use Rattle.pc_rules.specs.RuleText.{rule_of, IsRuleText}
use Rattle.pc_rules.proofs.RuleRead.{rule_of-read, rule_of-only, rule_fits, if_read}
use Rattle.pc_rules.proofs.rule_text.read_rule.Goals as goal

pub returns-clause-read : goal.returns-clause-read
returns-clause-read c =
    let names = c.args.names.now in
    let text = c.args.text.now in
    if_read c.first_fault_or_rule.result (rule_of names text) (λ rule. IsRuleText names text rule) c.first_fault_or_rule.ensures (λ rule e. rule_of-read names text rule e)

pub returns-clause-only : goal.returns-clause-only
returns-clause-only c =
    λ rule is. subst (Gives (λ (r : Rule). r) c.first_fault_or_rule.result) (rule_of-only c.args.names.now c.args.text.now rule is) c.first_fault_or_rule.ensures

pub returns-clause-fits : goal.returns-clause-fits
returns-clause-fits c =
    let names = c.args.names.now in
    let text = c.args.text.now in
    λ variables holds. if_read c.first_fault_or_rule.result (rule_of names text) (λ rule. is_rule variables rule ≡ true) c.first_fault_or_rule.ensures
    (λ rule e. rule_fits names text rule variables holds (rule_of-read names text rule e))
