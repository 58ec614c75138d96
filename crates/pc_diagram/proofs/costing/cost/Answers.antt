-- One variable further, the sum and its range grow by what is taken of it.
use Rattle.std.proofs.Common.{◌≡◌, ◌<◌, [], length, get_or, slice_get, arith, ap}
use Rattle.std.proofs.lemmas.Int.{ints}
use Rattle.std.proofs.lemmas.List.{get_or_read}
use Rattle.pc_diagram.specs.Costs.{part_taken}
use Rattle.pc_diagram.proofs.CostLemmas.{cost-take_more, part_taken_in_range}
use Rattle.pc_diagram.proofs.costing.cost.Goals as goal

pub loop-variable-preserved : goal.loop-variable-preserved
loop-variable-preserved c =
    let costs = c.args.costs.now in
    let i = c.loop-variable.variable in
    let slice = c.as_slice-row-items.ensures in
    let inside : i < length costs = omega (arith, ap length slice) in
    let step = cost-take_more costs c.args.which c.args.word.now i inside in
    let row = rw slice at (get_or_read c.as_slice-row-items.result.now i c.row-item.result (omega arith) c.row-item.is []) in
    let part : c.part_taken-sum.result ≡ part_taken (get_or costs i []) c.args.which (slice_get c.args.word.now i) = cc (row, c.get.ensures.value, c.part_taken-sum.ensures) in
    let range = part_taken_in_range (get_or costs i []) c.args.which (slice_get c.args.word.now i) (c.requires.in_range i [] inside) in
    record { so_far = omega (arith, ints); low = omega (arith, ints); high = omega (arith, ints) }
