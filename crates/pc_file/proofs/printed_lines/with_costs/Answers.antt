use Rattle.std.proofs.Common.{◌<◌, length, sym, ap, ◌∙◌, arith}
use Rattle.pc_file.specs.PrintedForm.{cost_line}
use Rattle.pc_file.specs.PrintedSize.{with_line}
use Rattle.pc_file.proofs.LineSizeLemmas.{lines_next, lines_stop}
use Rattle.pc_file.proofs.printed_lines.with_costs.Goals as goal

pub returns-in_err-bytes : goal.returns-in_err-bytes
returns-in_err-bytes c =
    let name = c.name-item.result in
    let below : c.loop-name.name-index < length c.args.costs.now = omega arith in
    let told = c.with_line.ensures ∙ ap (with_line c.loop-name.bytes) c.cost_line_size.ensures in
    c.from_residual.ensures ∙ sym (lines_stop cost_line c.args.bytes c.args.costs.now c.loop-name.name-index name c.loop-name.bytes below c.name-item.is c.loop-name.invariant (sym told ∙ c.in_err-bytes.was))

pub loop-name-preserved : goal.loop-name-preserved
loop-name-preserved c =
    let name = c.name-item.result in
    let below : c.loop-name.name-index < length c.args.costs.now = omega arith in
    let told = c.with_line.ensures ∙ ap (with_line c.loop-name.bytes) c.cost_line_size.ensures in
    lines_next cost_line c.args.bytes c.args.costs.now c.loop-name.name-index name c.loop-name.bytes below c.name-item.is c.loop-name.invariant ∙ sym told ∙ c.in_ok-bytes.was
