use Rattle.std.proofs.Common.{◌∙◌, [], length, sum_by, ap, arith}
use Rattle.std.proofs.lemmas.List.{get_or_read}
use Rattle.std.proofs.lemmas.List.Sums.{sum_by_more, sum_by_more_le}
use Rattle.pc_pareto.proofs.kept.size_of_all.Goals as goal

pub size_of-total-requires : goal.size_of-total-requires
size_of-total-requires c =
    let stages = c.args.stages.now in
    let i = c.loop-stage.stage-index in
    let here = ap (sum_by length) (c.as_slice.ensures ∙ get_or_read stages i c.stage-item.result c.loop-stage-test.true c.stage-item.is []) in
    let most = sum_by_more_le (sum_by length) stages i [] c.loop-stage-test.true in
    let all = c.requires in
    omega arith

pub loop-stage-preserved : goal.loop-stage-preserved
loop-stage-preserved c =
    let stages = c.args.stages.now in
    let i = c.loop-stage.stage-index in
    let here = ap (sum_by length) (c.as_slice.ensures ∙ get_or_read stages i c.stage-item.result c.loop-stage-test.true c.stage-item.is []) in
    let more = sum_by_more (sum_by length) stages i [] c.loop-stage-test.true in
    let so_far = c.loop-stage.invariant in
    let size = c.size_of-total.ensures in
    omega arith
