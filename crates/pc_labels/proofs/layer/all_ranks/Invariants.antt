use Rattle.std.proofs.Common.{◌≡◌, take, map}
use Rattle.pc_labels.specs.Ranks.{rank_of}
use Rattle.pc_labels.proofs.layer.all_ranks.Given as goal

abbrev pub invariant-loop-weight : goal.invariant-loop-weight
invariant-loop-weight l = l.ranks.items ≡ map rank_of (take l.weight-index l.weights)
