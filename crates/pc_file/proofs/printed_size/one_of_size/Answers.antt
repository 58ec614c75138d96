use Rattle.std.proofs.Common.{ℕ, arith, length-append}
use Rattle.std.specs.Prelude.{codes}
use Rattle.pc_file.specs.PrintedRule.{printed_value}
use Rattle.pc_file.proofs.PrintedLemmas.{length-join_by}
use Rattle.pc_file.proofs.printed_size.one_of_size.Goals as goal

pub returns : goal.returns
returns c =
    let joined = length-join_by (printed_value c.args.variables.now c.args.variable) (codes ", ") c.args.values.now in
    omega (arith, joined, length-append {A = ℕ})
