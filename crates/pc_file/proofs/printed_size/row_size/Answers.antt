use Rattle.std.proofs.Common.{ℕ, length, take, ap, ◌∙◌, arith}
use Rattle.std.specs.Prelude.{codes, sum_by}
use Rattle.std.specs.List.{zip}
use Rattle.std.proofs.lemmas.List.{length_push}
use Rattle.std.proofs.lemmas.Slice.Zip.{length-zip, zip_turn, zip_end}
use Rattle.pc_file.specs.PrintedRule.{printed_value}
use Rattle.pc_file.specs.PrintedSize.{counted}
use Rattle.pc_file.proofs.PrintedLemmas.{length-join_by}
use Rattle.pc_file.proofs.ZipLemmas.{sum_zip_more, zip_all}
use Rattle.pc_file.proofs.printed_size.row_size.Goals as goal

pub loop-variable-preserved : goal.loop-variable-preserved
loop-variable-preserved c =
    let these = c.args.these.now in
    let row = c.args.row.now in
    let n = length c.loop-variable.yielded in
    let variable = c.in-Some.variable.now in
    let value = c.in-Some.value.now in
    let size = λ (p : ℕ × ℕ). length (printed_value c.args.variables.now p.0 p.1) in
    let turn = zip_turn these row c.loop-variable.yielded c.into_iter-variable-iterator.result c.loop-variable.variable-iterator c.next.new.self c.next.result (cc) (cc) c.loop-variable.yielded_by (c.in-Some.variable, c.in-Some.value) c.in-Some.is c.next.ensures.steps in
    let more = sum_zip_more these row size n variable value turn.0 turn.1 (turn.2 variable) (turn.3 value) in
    let pushed = length_push c.loop-variable.yielded (c.in-Some.variable, c.in-Some.value) in
    let next = ap (λ k. sum_by size (take k (zip these row))) pushed ∙ more in
    omega (arith, next, c.loop-variable.invariant, c.saturating_add-size.ensures, c.value_size.ensures.size)

pub returns : goal.returns
returns c =
    let these = c.args.these.now in
    let row = c.args.row.now in
    let size = λ (p : ℕ × ℕ). length (printed_value c.args.variables.now p.0 p.1) in
    let end = zip_end these row c.loop-variable.yielded c.into_iter-variable-iterator.result c.loop-variable.variable-iterator c.next.new.self c.next.result (cc) (cc) c.loop-variable.yielded_by c.in-None.is c.next.ensures.steps in
    let summed = c.loop-variable.invariant ∙ ap (λ pairs. counted (sum_by size pairs)) (zip_all these row (length c.loop-variable.yielded) end) in
    let joined = length-join_by (λ (p : ℕ × ℕ). printed_value c.args.variables.now p.0 p.1) (codes " ") (zip these row) in
    omega (arith, summed, joined, length-zip these row)
