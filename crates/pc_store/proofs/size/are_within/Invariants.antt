use Rattle.std.proofs.Common.{◌≡◌, ◌+◌, drop}
use Rattle.pc_store.specs.Layered.{node_total}
use Rattle.pc_store.proofs.size.are_within.Given as goal

abbrev pub invariant-loop-layer : goal.invariant-loop-layer
invariant-loop-layer l = node_total l.layers + l.left ≡ node_total (drop l.layer-index l.layers) + l.most
