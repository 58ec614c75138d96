use Rattle.std.proofs.Common.{◌≡◌, take}
use Rattle.pc_labels.proofs.shared_layer.all_shared.Given as goal

abbrev pub invariant-loop-layer : goal.invariant-loop-layer
invariant-loop-layer l = l.shared.items ≡ take l.layer-index l.layers
