use Rattle.std.proofs.Common.{◌<◌, length, map, sym, ap, ◌∙◌, arith}
use Rattle.std.specs.Prelude.{option_and_then}
use Rattle.pc_file.specs.PrintedForm.{value_line}
use Rattle.pc_file.specs.PrintedSize.{with_line, with_lines}
use Rattle.pc_file.proofs.LineSizeLemmas.{lines_next, lines_stop}
use Rattle.pc_file.proofs.printed_lines.with_variable.Goals as goal

pub returns-in_err-bytes-2 : goal.returns-in_err-bytes-2
returns-in_err-bytes-2 c =
    let line = value_line c.args.costs in
    let items = c.as_slice-value-items.result.now in
    let below : c.loop-value.value-index < length items = omega arith in
    let told = c.with_line-in-loop-value.ensures ∙ ap (with_line c.loop-value.bytes) c.value_line_size.ensures in
    let stop = lines_stop line c.in_ok-bytes.bytes items c.loop-value.value-index c.value-item.result c.loop-value.bytes below c.value-item.is c.loop-value.invariant (sym told ∙ c.in_err-bytes-2.was) in
    let head = sym (c.with_line.ensures ∙ ap (with_line c.args.bytes) c.variable_line_size.ensures) ∙ c.in_ok-bytes.was in
    c.from_residual-in_err-bytes-2.ensures
    ∙ sym (ap (option_and_then (λ more. with_lines more (map line c.args.variable.now.values))) head
    ∙ ap (λ values. with_lines c.in_ok-bytes.bytes (map line values)) (sym c.as_slice-value-items.ensures) ∙ stop)

pub loop-value-preserved : goal.loop-value-preserved
loop-value-preserved c =
    let items = c.as_slice-value-items.result.now in
    let below : c.loop-value.value-index < length items = omega arith in
    let told = c.with_line-in-loop-value.ensures ∙ ap (with_line c.loop-value.bytes) c.value_line_size.ensures in
    lines_next (value_line c.args.costs) c.in_ok-bytes.bytes items c.loop-value.value-index c.value-item.result c.loop-value.bytes below c.value-item.is c.loop-value.invariant ∙ sym told ∙ c.in_ok-bytes-2.was
