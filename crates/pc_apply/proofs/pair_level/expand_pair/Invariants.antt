use Rattle.std.proofs.Common.{◌+◌}
use Rattle.pc_apply.specs.declared.pair.Operation.{Operation}
use Rattle.pc_apply.specs.Pairs.{pairs_at}
use Rattle.pc_apply.proofs.LevelLemmas.{Expanded}
use Rattle.pc_apply.proofs.pair_level.expand_pair.Given as goal

abbrev pub invariant-loop-value : goal.invariant-loop-value
invariant-loop-value l = (operation : Operation) → Expanded l.store l.layer (pairs_at l.store l.layer operation) (pairs_at l.store (l.layer + 1) operation) l.fn.pair l.value l.fn.below.keys l.below.keys l.fn.targets.items l.targets.items
