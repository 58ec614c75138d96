use Rattle.std.proofs.Common.{◌++◌, get_or, take, refl}
use Rattle.pc_store.proofs.EachLemmas.{each_take, each_all, last_was, last_is}
use Rattle.pc_store.proofs.size.add_each.Goals as goal

pub loop-node-preserved : goal.loop-node-preserved
loop-node-preserved c = record {
  each = λ before h.
      each_take before c.args.nodes.now c.add_after.new.set.keys c.loop-node.node-index c.loop-node-test.true
      (c.in_ok-add_after.ensures (before ++ take c.loop-node.node-index c.args.nodes.now) (last_was before c.args.nodes.now c.loop-node.node-index c.loop-node.last c.loop-node.invariant.last) (c.loop-node.invariant.each before h));
  last = last_is c.args.nodes.now c.loop-node.node-index (get_or c.args.nodes.now c.loop-node.node-index 0) c.loop-node-test.true refl;
}

pub returns : goal.returns
returns c = λ before h. each_all before c.args.nodes.now c.loop-node.set.keys c.loop-node.node-index c.loop-node-test.false (c.loop-node.invariant.each before h)
