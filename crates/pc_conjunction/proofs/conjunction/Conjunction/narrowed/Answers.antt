use Rattle.std.proofs.Common.{◌≡◌, ◌∙◌, ◌&&◌, List, length, reverse, refl, sym, ap, arith}
use Rattle.std.proofs.lemmas.List.{length-reverse}
use Rattle.pc_store.specs.Sets.{domains_of, has}
use Rattle.pc_conjunction.specs.declared.layer.Layer.{Layer}
use Rattle.pc_conjunction.specs.Places.{domains}
use Rattle.pc_conjunction.specs.Conjunctions.{conjunction_domains, contains}
use Rattle.pc_conjunction.proofs.StoredLemmas.{length-domains}
use Rattle.pc_conjunction.proofs.conjunction.Conjunction.narrowed.Goals as goal

pub narrow-requires-clause-layer : goal.narrow-requires-clause-layer
unfolding conjunction_domains
narrow-requires-clause-layer c =
    let same : domains_of c.args.store.now ≡ domains (reverse c.self.inside.layers) = c.requires.domains ∙ ap conjunction_domains (sym c.self.view_is) in
    omega (arith, ap length same, length-domains c.self.inside.layers)

pub narrow-requires-clause-inner : goal.narrow-requires-clause-inner
unfolding conjunction_domains
narrow-requires-clause-inner c =
    let same : domains_of c.args.store.now ≡ domains (reverse c.self.inside.layers) = c.requires.domains ∙ ap conjunction_domains (sym c.self.view_is) in
    let some = c.self.invariant.some_layer in
    omega (arith, ap length same, length-domains c.self.inside.layers, length-reverse c.self.inside.layers)

pub narrow-requires-clause-few : goal.narrow-requires-clause-few
unfolding conjunction_domains
narrow-requires-clause-few c =
    let same : domains_of c.args.store.now ≡ domains (reverse c.self.inside.layers) = c.requires.domains ∙ ap conjunction_domains (sym c.self.view_is) in
    let few = c.self.invariant.few_layers in
    omega (arith, ap length same, length-domains c.self.inside.layers, length-reverse c.self.inside.layers)

pub narrow-requires-clause-below : goal.narrow-requires-clause-below
unfolding conjunction_domains
narrow-requires-clause-below c =
    let same : domains_of c.args.store.now ≡ domains (reverse c.self.inside.layers) = c.requires.domains ∙ ap conjunction_domains (sym c.self.view_is) in
    record { layered = c.self.invariant.layered; domains_are = sym same; count_is = refl }

pub returns-clause-domains : goal.returns-clause-domains
unfolding conjunction_domains
returns-clause-domains c = c.in_ok-narrow.ensures.domains_are ∙ ap conjunction_domains c.self.view_is

pub returns-clause-words : goal.returns-clause-words
unfolding contains
returns-clause-words c = λ word. c.in_ok-narrow.ensures.words 1 word ∙ ap (λ (ls : List Layer). contains ls word && has c.args.store.now c.args.set word) c.self.view_is
