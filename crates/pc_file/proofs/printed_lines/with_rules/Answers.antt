use Rattle.std.proofs.Common.{◌<◌, length, sym, ap, ◌∙◌, arith}
use Rattle.pc_file.specs.PrintedForm.{rule_line}
use Rattle.pc_file.specs.PrintedSize.{with_line}
use Rattle.pc_file.proofs.LineSizeLemmas.{with_line-counted, lines_next, lines_stop}
use Rattle.pc_file.proofs.printed_lines.with_rules.Goals as goal

pub returns-in_err-bytes : goal.returns-in_err-bytes
returns-in_err-bytes c =
    let rule = c.rule-item.result in
    let below : c.loop-rule.rule-index < length c.args.rules.now = omega arith in
    let told = c.with_line.ensures ∙ ap (with_line c.loop-rule.bytes) c.rule_line_size.ensures ∙ with_line-counted c.loop-rule.bytes (length (rule_line c.args.variables.now rule)) in
    c.from_residual.ensures ∙ sym (lines_stop (rule_line c.args.variables.now) c.args.bytes c.args.rules.now c.loop-rule.rule-index rule c.loop-rule.bytes below c.rule-item.is c.loop-rule.invariant (sym told ∙ c.in_err-bytes.was))

pub loop-rule-preserved : goal.loop-rule-preserved
loop-rule-preserved c =
    let rule = c.rule-item.result in
    let below : c.loop-rule.rule-index < length c.args.rules.now = omega arith in
    let told = c.with_line.ensures ∙ ap (with_line c.loop-rule.bytes) c.rule_line_size.ensures ∙ with_line-counted c.loop-rule.bytes (length (rule_line c.args.variables.now rule)) in
    lines_next (rule_line c.args.variables.now) c.args.bytes c.args.rules.now c.loop-rule.rule-index rule c.loop-rule.bytes below c.rule-item.is c.loop-rule.invariant ∙ sym told ∙ c.in_ok-bytes.was
