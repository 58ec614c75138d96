use Rattle.std.proofs.Common.{◌≡◌, ◌+◌, List, length, reverse, sym, subst, arith}
use Rattle.pc_conjunction.specs.declared.layer.Layer.{Layer}
use Rattle.pc_conjunction.specs.Conjunctions.{conjunction_domains, contains}
use Rattle.pc_conjunction.proofs.NewLemmas.{MadeLast, last_none, last_more, last_all, new_conjunction, new_domains, new_words}
use Rattle.pc_conjunction.proofs.conjunction.Conjunction.new.Goals as goal

pub loop-place-init : goal.loop-place-init
loop-place-init c = subst (MadeLast c.args.domains.now 0) (sym {A = List Layer} c.in_ok-layers.ensures) (last_none c.args.domains.now)

pub loop-place-preserved : goal.loop-place-preserved
loop-place-preserved c =
    subst (MadeLast c.args.domains.now (c.loop-place.place + 1)) (sym {A = List Layer} c.in_ok-push.ensures.ok)
    (last_more c.args.domains.now c.loop-place.place c.loop-place.layers c.in_ok-new.field-0 c.loop-place-test.true c.loop-place.invariant c.in_ok-new.ensures)

pub invariant_of-result : goal.invariant_of-result
invariant_of-result c =
    let end : c.loop-place.place ≡ length c.args.domains.now = (let low = c.loop-place-test.false in let high = c.loop-place.auto.place-end in omega arith) in
    new_conjunction c.args.domains.now (reverse c.loop-place.layers) c.requires.some c.requires.few c.requires.sizes (last_all c.args.domains.now c.loop-place.place c.loop-place.layers end c.loop-place.invariant)

pub returns-clause-domains : goal.returns-clause-domains
unfolding conjunction_domains
returns-clause-domains c =
    let end : c.loop-place.place ≡ length c.args.domains.now = (let low = c.loop-place-test.false in let high = c.loop-place.auto.place-end in omega arith) in
    new_domains c.args.domains.now (reverse c.loop-place.layers) (last_all c.args.domains.now c.loop-place.place c.loop-place.layers end c.loop-place.invariant)

pub returns-clause-words : goal.returns-clause-words
unfolding contains
returns-clause-words c =
    let end : c.loop-place.place ≡ length c.args.domains.now = (let low = c.loop-place-test.false in let high = c.loop-place.auto.place-end in omega arith) in
    new_words c.args.domains.now (reverse c.loop-place.layers) (last_all c.args.domains.now c.loop-place.place c.loop-place.layers end c.loop-place.invariant)
