use Rattle.std.proofs.Common.{◌≡◌, ◌∙◌, ◌++◌, ◌∷◌, [], ℕ, List, All, length, sym, ap, subst, arith}
use Rattle.std.proofs.lemmas.List.{take_more, take_all}
use Rattle.std.proofs.lemmas.List.Elements.{All-push}
use Rattle.pc_store.specs.Layered.{IsDomain}
use Rattle.pc_store.specs.Sets.{domains_of}
use Rattle.pc_conjunction.proofs.conjunction.domains_of.Goals as goal

pub loop-layer-init : goal.loop-layer-init
loop-layer-init c = record {
  first = c.new-domains.ensures;
  sizes = subst (All IsDomain) (sym {A = List ℕ} c.new-domains.ensures) (λ k d lt. absurd (omega arith));
}

pub loop-layer-preserved : goal.loop-layer-preserved
loop-layer-preserved c =
    let count = c.variables-layer-end.ensures.count in
    let test = c.loop-layer-test.true in
    record {
      first = c.in_ok-push.ensures.ok ∙ (λ i. c.loop-layer.invariant.first i ++ c.domain.ensures.domain i ∷ []) ∙ sym (take_more (domains_of c.args.store.now) c.loop-layer.layer 0 (omega arith));
      sizes = subst (All IsDomain) (sym {A = List ℕ} c.in_ok-push.ensures.ok) (All-push IsDomain c.loop-layer.domains c.domain.result c.loop-layer.invariant.sizes c.domain.ensures.is_domain);
    }

pub returns-clause-domains : goal.returns-clause-domains
returns-clause-domains c =
    let count = c.variables-layer-end.ensures.count in
    let past = c.loop-layer-test.false in
    c.loop-layer.invariant.first ∙ take_all c.loop-layer.layer (domains_of c.args.store.now) (omega arith)

pub returns-clause-some : goal.returns-clause-some
returns-clause-some c =
    let count = c.variables-layer-end.ensures.count in
    let some = c.variables-layer-end.ensures.some in
    let past = c.loop-layer-test.false in
    let whole : c.loop-layer.domains ≡ domains_of c.args.store.now = c.loop-layer.invariant.first ∙ take_all c.loop-layer.layer (domains_of c.args.store.now) (omega arith) in
    omega (arith, ap {A = List ℕ} length whole)

pub returns-clause-few : goal.returns-clause-few
returns-clause-few c =
    let count = c.variables-layer-end.ensures.count in
    let few = c.variables-layer-end.ensures.few in
    let past = c.loop-layer-test.false in
    let whole : c.loop-layer.domains ≡ domains_of c.args.store.now = c.loop-layer.invariant.first ∙ take_all c.loop-layer.layer (domains_of c.args.store.now) (omega arith) in
    omega (arith, ap {A = List ℕ} length whole)

pub returns-clause-sizes : goal.returns-clause-sizes
returns-clause-sizes c = c.loop-layer.invariant.sizes
