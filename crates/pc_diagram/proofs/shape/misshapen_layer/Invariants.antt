-- The nodes of the layers so far, which have the shape of layers.
use Rattle.std.proofs.Common.{◌≡◌, ℕ, ◌<◌, ◌≤◌, true, take, sum}
use Rattle.pc_diagram.specs.DiagramShape.{has_shape}
use Rattle.pc_diagram.proofs.shape.misshapen_layer.Given as goal

abbrev pub invariant-loop-layer : goal.invariant-loop-layer
invariant-loop-layer l = record {
  so_far : l.nodes ≡ sum (take l.layer l.raw.sizes);
  few : l.nodes ≤ 262144;
  fit : (k : ℕ) → k < l.layer → has_shape l.raw k ≡ true;
}
