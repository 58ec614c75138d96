use Rattle.std.proofs.Common.{◌≡◌, ◌≤◌, ◌+◌, ◌∙◌, ◌∷◌, [], drop, refl, arith, subst}
use Rattle.std.proofs.lemmas.Grind.{common_steps}
use Rattle.pc_diagram.specs.declared.limits.TheConstants.{MOST_NODES}
use Rattle.pc_diagram.specs.Rests.{size}
use Rattle.pc_store.specs.Sets.{domains_of, has, layer_of}
use Rattle.pc_conjunction.specs.Conjunctions.{conjunction_domains}
use Rattle.pc_build.specs.Making.{Denotes, StopsAt, AllMade}
use Rattle.pc_build.proofs.MakingLemmas.{size_above, stops_here, made_here}
use Rattle.pc_build.proofs.JoinedLemmas.{holds_still, denotes_same, most_made}
use Rattle.pc_build.proofs.joint.Joint.counted.Goals as goal

pub returns-then-not-small-clause-made : goal.returns-then-not-small-clause-made
returns-then-not-small-clause-made c = λ test h.
    let domains = conjunction_domains c.args.self.all in
    let store = c.in_ok-stored.stored.store in
    let set = c.in_ok-stored.stored.set in
    let n = size (drop (layer_of set) (domains_of store)) (has store set) in
    let denotes : Denotes store test set = denotes_same domains c.args.self.all store set test c.in_ok-stored.ensures.domains c.in_ok-stored.ensures.is_id c.in_ok-stored.ensures.words h in
    let next : c.in-Some.part ≡ c.args.made.now + 1 = grind (arith, common_steps) in
    subst (λ d. StopsAt d (test ∷ []) c.args.made.now c.in-Some.part) c.in_ok-stored.ensures.domains (stops_here store set test n c.args.made.now c.in-Some.part denotes refl (size_above c.in_ok-small.small n MOST_NODES c.in_ok-small.ensures c.if-not-small.true) next)

pub returns-clause-made : goal.returns-clause-made
returns-clause-made c = λ test h.
    let domains = conjunction_domains c.args.self.all in
    let store = c.in_ok-stored.stored.store in
    let set = c.in_ok-stored.stored.set in
    let n = size (drop (layer_of set) (domains_of store)) (has store set) in
    let denotes : Denotes store test set = denotes_same domains c.args.self.all store set test c.in_ok-stored.ensures.domains c.in_ok-stored.ensures.is_id c.in_ok-stored.ensures.words h in
    let next : c.in-Some.part ≡ c.args.made.now + 1 = grind (arith, common_steps) in
    subst (λ d. AllMade d (test ∷ []) c.args.made.now c.in-Some.part) c.in_ok-stored.ensures.domains (made_here store set test n c.args.made.now c.in-Some.part denotes refl (c.in_ok-small.ensures.0 c.if-not-small.false) next)

pub returns-clause-words : goal.returns-clause-words
returns-clause-words c = λ test h.
    holds_still (conjunction_domains c.args.self.all) c.args.self.all c.in_ok-all.all test (c.in_ok-all.ensures.domains ∙ c.in_ok-stored.ensures.domains) (λ word. c.in_ok-all.ensures.words word ∙ c.in_ok-stored.ensures.words word) h

pub returns-then-most-min-clause-made : goal.returns-then-most-min-clause-made
returns-then-most-min-clause-made c = λ test h.
    let next : c.in-Some.part ≡ c.args.made.now + 1 = grind (arith, common_steps) in
    let small : c.most_nodes-most.result ≤ MOST_NODES = grind (arith, common_steps) in
    most_made (conjunction_domains c.args.self.all) c.args.self.all test c.most_nodes-most.result c.args.made.now c.in-Some.part h c.most_nodes-most.ensures small next
