use Rattle.std.proofs.Common.{length, take}
use Rattle.pc_store.specs.Sets.{domains_of}
use Rattle.pc_apply.specs.Levels.{EachAnswers}
use Rattle.pc_apply.specs.Pairs.{pairs_at}
use Rattle.pc_apply.proofs.pair_product.ends_of_pairs.Given as goal

abbrev pub invariant-loop-pair : goal.invariant-loop-pair
invariant-loop-pair l = EachAnswers l.store l.store (length (domains_of l.store)) (pairs_at l.store (length (domains_of l.store)) l.operation) (take l.pair-index l.pairs) l.ids.items
