use Rattle.std.proofs.Common.{◌++◌, take, subst}
use Rattle.std.specs.List.{flat_map}
use Rattle.pc_store.specs.Layered.{row_of}
use Rattle.pc_store.specs.Each.{NamesEach}
use Rattle.pc_store.proofs.EachLemmas.{each_children}
use Rattle.pc_store.proofs.size.children_of.Goals as goal

pub loop-node-preserved : goal.loop-node-preserved
loop-node-preserved c =
    let nodes = c.args.nodes.now in
    let i = c.loop-node.node-index in
    let more = c.in_ok-add_each.ensures (flat_map (row_of c.args.layer.now) (take i nodes)) c.loop-node.invariant in
    each_children (row_of c.args.layer.now) nodes c.add_each.new.set.keys i c.loop-node-test.true
    (subst (λ row. NamesEach (flat_map (row_of c.args.layer.now) (take i nodes) ++ row) c.add_each.new.set.keys) c.row.ensures more)
