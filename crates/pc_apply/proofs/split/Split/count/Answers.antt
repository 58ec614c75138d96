use Rattle.pc_apply.proofs.SplitLemmas.{counted_more}
use Rattle.pc_apply.proofs.split.Split.count.Goals as goal

pub loop-row-preserved : goal.loop-row-preserved
loop-row-preserved c =
    counted_more c.args.store.now c.args.layer c.args.rows.now c.args.value c.loop-row.row-index c.row-item.result c.node.result c.loop-row.self c.count_in.new.self c.loop-row-test.true c.row-item.is c.node.ensures c.in_ok-count_in.ensures c.loop-row.invariant
