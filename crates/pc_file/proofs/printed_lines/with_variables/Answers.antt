use Rattle.std.proofs.Common.{◌<◌, length, sym, ◌∙◌, arith}
use Rattle.pc_file.specs.PrintedForm.{variable_lines}
use Rattle.pc_file.proofs.LineSizeLemmas.{items_next, items_stop}
use Rattle.pc_file.proofs.printed_lines.with_variables.Goals as goal

pub returns-in_err-bytes : goal.returns-in_err-bytes
returns-in_err-bytes c =
    let variable = c.variable-item.result in
    let below : c.loop-variable.variable-index < length c.args.variables.now = omega arith in
    let told = c.with_variable.ensures in
    c.from_residual.ensures ∙ sym (items_stop (variable_lines c.args.costs) c.args.bytes c.args.variables.now c.loop-variable.variable-index variable c.loop-variable.bytes below c.variable-item.is c.loop-variable.invariant (sym told ∙ c.in_err-bytes.was))

pub loop-variable-preserved : goal.loop-variable-preserved
loop-variable-preserved c =
    let variable = c.variable-item.result in
    let below : c.loop-variable.variable-index < length c.args.variables.now = omega arith in
    let told = c.with_variable.ensures in
    items_next (variable_lines c.args.costs) c.args.bytes c.args.variables.now c.loop-variable.variable-index variable c.loop-variable.bytes below c.variable-item.is c.loop-variable.invariant ∙ sym told ∙ c.in_ok-bytes.was
