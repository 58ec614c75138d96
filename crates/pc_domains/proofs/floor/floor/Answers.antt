-- The least of all labels of the layer is below none of them.
use Rattle.std.proofs.Common.{◌+◌, sym, subst, ◌∙◌, ap}
use Rattle.pc_domains.specs.Floors.{IsLeastLabel, lesser}
use Rattle.pc_domains.proofs.FloorLemmas.{next_label}
use Rattle.pc_domains.proofs.floor.floor.Goals as goal

pub loop-node-preserved : goal.loop-node-preserved
loop-node-preserved c =
    let labels = c.args.labels.now in
    let layer = c.args.layer in
    let node = c.loop-node.node in
    subst (IsLeastLabel labels layer (node + 1)) (sym (c.lesser-least.ensures ∙ ap (lesser c.loop-node.least) c.weight.ensures))
    (next_label labels layer node c.loop-node.least c.loop-node.invariant (c.requires.summed.sums node c.loop-node-test.true))
