use Rattle.std.proofs.Common.{◌≡◌, ◌<◌, ◌-◌, ◌∙◌, Some, inl, inr, sym, ap, subst, arith, length, slice_get}
use Rattle.std.proofs.lemmas.Bool.{both_ways}
use Rattle.pc_diagram.specs.Words.{is_word}
use Rattle.pc_store.specs.Sets.{domains_of, has, IsIdAt}
use Rattle.pc_conjunction.specs.Places.{place_count}
use Rattle.pc_conjunction.specs.Meets.{StandsAt, in_node}
use Rattle.pc_conjunction.proofs.PlaceLemmas.{accepts_over}
use Rattle.pc_conjunction.proofs.MeetLemmas.{more_pair, same_pair-is}
use Rattle.pc_conjunction.proofs.TargetLemmas.{meets_none, none_at_empty, none_in_empty, meets_all, meets_pair, all_or_none_set}
use Rattle.pc_conjunction.proofs.pair.target.Goals as goal

pub returns-then-pair-eq-NO_WORDS-clause-meets : goal.returns-then-pair-eq-NO_WORDS-clause-meets
returns-then-pair-eq-NO_WORDS-clause-meets c = λ layers below.
    let test = in_node c.args.store.now c.args.layer c.args.pair in
    meets_none c.args.store.now c.args.layer layers c.args.pairs.now.keys c.args.pair.place test below.layered (none_at_empty layers c.args.pair.place test below.layered c.if-pair-eq-NO_WORDS.true)

pub returns-then-same_set-clause-meets : goal.returns-then-same_set-clause-meets
returns-then-same_set-clause-meets c = λ layers below.
    let test = in_node c.args.store.now c.args.layer c.args.pair in
    meets_none c.args.store.now c.args.layer layers c.args.pairs.now.keys c.args.pair.place test below.layered
    (none_in_empty layers c.args.pair.place test (λ word. ap (λ id. has c.args.store.now id word) (sym c.at-set.ensures.id) ∙ c.same_set.ensures.0 c.if-same_set.true word ∙ c.empty.ensures.set word))

pub returns-then-same_set-2-clause-meets : goal.returns-then-same_set-2-clause-meets
returns-then-same_set-2-clause-meets c = λ layers below.
    let test = in_node c.args.store.now c.args.layer c.args.pair in
    let inside : c.args.pair.place < place_count layers = (let n = below.count_is in let lt = c.requires.place in omega arith) in
    meets_all c.args.store.now c.args.layer layers c.args.pairs.now.keys c.args.pair.place test inside
    (λ word there. ap (λ id. has c.args.store.now id word) (sym c.at-set.ensures.id) ∙ c.same_set-2.ensures.0 c.if-same_set-2.true word ∙ c.full.ensures.set word ∙ ap (λ d. is_word d word) (sym below.domains_are) ∙ accepts_over layers below.layered c.args.pair.place word there)

pub returns-then-stands_at-clause-meets : goal.returns-then-stands_at-clause-meets
returns-then-stands_at-clause-meets c = λ layers below.
    let stands : StandsAt c.args.count c.args.pairs.now.keys c.args.near c.args.pair = c.stands_at.ensures.0 c.if-stands_at.true in
    meets_pair c.args.store.now c.args.layer layers c.args.pairs.now.keys c.args.pair (c.args.near - c.args.count) c.args.near stands.is_there (let n = below.count_is in let after = stands.after in omega arith)

pub returns-clause-meets : goal.returns-clause-meets
returns-clause-meets c = λ layers below.
    let stored = c.in_ok-place.ensures.stored in
    let at : slice_get c.insert_full.new.self.keys c.in_ok-place.place ≡ Some c.args.pair = stored.1 ∙ ap Some (sym (same_pair-is c.args.pair stored.0 stored.2)) in
    meets_pair c.args.store.now c.args.layer layers c.insert_full.new.self.keys c.args.pair c.in_ok-place.place _ at (let n = below.count_is in omega arith)

pub returns-clause-pairs : goal.returns-clause-pairs
returns-clause-pairs c =
    let known : IsIdAt c.args.store.now c.args.layer c.at-set.result = subst (IsIdAt c.args.store.now c.args.layer) (sym c.at-set.ensures.id) c.requires.node in
    let inner : c.args.layer ≡ length (domains_of c.args.store.now) → ⊥ = λ end. elim (all_or_none_set c.args.store.now c.args.layer c.at-set.result c.empty.result c.full.result known end c.empty.ensures.set c.full.ensures.set) [
      | inl none ↦ both_ways c.same_set.result c.if-same_set.false (c.same_set.ensures.1 none)
      | inr all ↦ both_ways c.same_set-2.result c.if-same_set-2.false (c.same_set-2.ensures.1 all)
    ] in
    more_pair c.args.store.now c.args.layer c.args.count c.args.pairs.now.keys c.insert_full.new.self.keys c.args.pair c.requires.place c.requires.node inner c.in_ok-place.ensures.keys
