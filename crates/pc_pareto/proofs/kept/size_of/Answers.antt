use Rattle.std.proofs.Common.{◌∙◌, [], length, ap, arith}
use Rattle.std.proofs.lemmas.List.{get_or_read}
use Rattle.std.proofs.lemmas.List.Sums.{sum_by_more}
use Rattle.pc_pareto.proofs.kept.size_of.Goals as goal

pub loop-front-preserved : goal.loop-front-preserved
loop-front-preserved c =
    let stage = c.args.stage.now in
    let i = c.loop-front.front-index in
    let size = ap length (c.as_slice.ensures ∙ get_or_read stage i c.front-item.result c.loop-front-test.true c.front-item.is []) in
    let more = sum_by_more length stage i [] c.loop-front-test.true in
    let so_far = c.loop-front.invariant in
    omega arith
