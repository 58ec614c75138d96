use Rattle.std.proofs.Common.{take, ◌+◌}
use Rattle.pc_apply.specs.Levels.{EachFits}
use Rattle.pc_apply.specs.Pairs.{pairs_at}
use Rattle.pc_apply.proofs.pair_level.plan_pairs.Given as goal

abbrev pub invariant-loop-pair : goal.invariant-loop-pair
invariant-loop-pair l = EachFits l.store l.layer (pairs_at l.store l.layer l.operation) (pairs_at l.store (l.layer + 1) l.operation) (take l.pair-index l.pairs) l.below.keys l.targets.items l.plans.items
