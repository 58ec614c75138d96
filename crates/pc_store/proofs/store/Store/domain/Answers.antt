use Rattle.std.proofs.Common.{◌<◌, ◌∙◌, sym, ap, subst, length, arith}
use Rattle.std.proofs.lemmas.Grind.{common_steps}
use Rattle.pc_store.specs.declared.layer.Layer.{Layer}
use Rattle.pc_store.specs.Layered.{IsDomain}
use Rattle.pc_store.specs.Sets.{domains_of}
use Rattle.pc_store.proofs.SetLemmas.{length-domains, domain_at, is_domain_at}
use Rattle.pc_store.proofs.store.Store.domain.Goals as goal

pub index-requires : goal.index-requires
index-requires c =
    let inside : c.args.layer < length (domains_of c.self.inside.layers.items) = rw c.self.view_is c.requires in
    let same = length-domains c.self.inside.layers.items in
    grind (arith, common_steps)

pub returns-clause-domain : goal.returns-clause-domain
returns-clause-domain c =
    let inside : c.args.layer < length (domains_of c.self.inside.layers.items) = rw c.self.view_is c.requires in
    rw (← c.self.view_is) (ap (λ (layer : Layer). layer.domain) c.index.ensures ∙ domain_at c.self.inside.layers.items c.args.layer c.index.result.now inside)

pub returns-clause-is_domain : goal.returns-clause-is_domain
returns-clause-is_domain c =
    let inside : c.args.layer < length (domains_of c.self.inside.layers.items) = rw c.self.view_is c.requires in
    subst (λ (layer : Layer). IsDomain layer.domain) (sym c.index.ensures) (is_domain_at c.self.inside.layers.items c.args.layer c.index.result.now c.self.invariant.layered inside)
