use Rattle.std.proofs.Common.{ℕ, zero, suc, ◌+◌, ◌<◌, List, ◌∷◌, take, replicate, All, arith}
use Rattle.std.proofs.lemmas.List.{get_or-take, get_or-replicate, length-replicate, length-take}
use Rattle.pc_store.specs.declared.id.Id.{Id}
use Rattle.pc_store.specs.Sets.{IsIdAt}
use Rattle.pc_bench.proofs.build.branch.Goals as goal

all_take : (P : Id → Type 0) (count : ℕ) (ids : List Id) → All P ids → All P (take count ids)
all_take P count ids all k d lt =
    let shorter = length-take count ids in
    rw (get_or-take count ids k d (omega arith)) (all k d (omega arith))

all_but_first : (P : Id → Type 0) (count : ℕ) (first others : Id) → P first → P others → All P (first ∷ replicate count others)
all_but_first P count first others p q zero d lt = p
all_but_first P count first others p q (suc k) d lt =
    let inside : k < count = omega (arith, length-replicate {A = Id} count others) in
    rw (get_or-replicate {A = Id} count k others d inside) q

pub node-requires-clause-below : goal.node-requires-clause-below
node-requires-clause-below c =
    all_take (IsIdAt c.args.store.now (c.args.layer + 1)) c.domain-count.result (c.args.first ∷ replicate 63 c.args.others) (all_but_first (IsIdAt c.args.store.now (c.args.layer + 1)) 63 c.args.first c.args.others c.requires.first c.requires.others)
