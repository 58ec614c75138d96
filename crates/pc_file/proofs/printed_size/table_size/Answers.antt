use Rattle.std.proofs.Common.{◌≡◌, ◌+◌, length, arith}
use Rattle.std.specs.Prelude.{codes}
use Rattle.std.specs.List.{join_by}
use Rattle.pc_file.specs.declared.rule.Rule.TheOpen.{Table}
use Rattle.pc_file.specs.PrintedRule.{printed_variable, printed_row, text_of}
use Rattle.pc_file.proofs.PrintedLemmas.{length-join_by, size_of_table}
use Rattle.pc_file.proofs.printed_size.table_size.Goals as goal

pub returns : goal.returns
returns c =
    let variables = c.args.variables.now in
    let these = c.args.these.now in
    let rows = c.args.rows.now in
    let of_names = join_by (printed_variable variables) (codes ", ") these in
    let of_rows = join_by (printed_row variables these) (codes ", ") rows in
    let text : length (text_of variables (Table these rows)) ≡ length of_names + length of_rows + 11 = size_of_table of_names of_rows in
    omega (arith, text, length-join_by (printed_variable variables) (codes ", ") these, length-join_by (printed_row variables these) (codes ", ") rows)
