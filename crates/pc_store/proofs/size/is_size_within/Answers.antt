use Rattle.std.proofs.Common.{refl, arith}
use Rattle.pc_store.proofs.BoundLemmas.{size_most}
use Rattle.pc_store.proofs.size.is_size_within.Goals as goal

pub returns-then-are_within : goal.returns-then-are_within
returns-then-are_within c =
    let size = size_most c.args.layers.now c.requires.layered c.args.node c.requires.is_node in
    let few = c.are_within.ensures.0 c.if-are_within.true in
    ((λ yes. omega arith), λ small. refl)
