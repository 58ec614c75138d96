use Rattle.std.proofs.Common.{◌≡◌, ◌≤◌, ◌+◌, ◌*◌, take, reverse}
use Rattle.pc_conjunction.proofs.SizeLemmas.{bound}
use Rattle.pc_conjunction.proofs.conjunction.Conjunction.most_nodes.Given as goal

abbrev pub invariant-loop-layer : goal.invariant-loop-layer
invariant-loop-layer l = record {
  most_is : l.most ≡ bound (reverse (take l.layer-index l.layer-items));
  small : l.most ≤ 1 + l.layer-index * 4294967296;
}
