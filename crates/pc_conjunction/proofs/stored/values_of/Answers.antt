use Rattle.std.proofs.Common.{◌≡◌, ◌∙◌, ◌++◌, ◌∷◌, [], List, length, reverse, get_or, Fits, w32, sym, ap, subst, arith}
use Rattle.std.proofs.lemmas.Grind.{common_steps}
use Rattle.std.proofs.lemmas.List.{take_more, take_all}
use Rattle.pc_conjunction.specs.declared.layer.Layer.{Layer}
use Rattle.pc_conjunction.specs.Places.{domains}
use Rattle.pc_conjunction.proofs.StoredLemmas.{domain_at, length-domains}
use Rattle.pc_conjunction.proofs.stored.values_of.Goals as goal

pub overflow_cast-len : goal.overflow_cast-len
overflow_cast-len c =
    let layers : List Layer = c.args.layers.now in
    let place = c.loop-place.place in
    let test = c.loop-place-test.true in
    let value : c.len.result ≡ get_or (domains (reverse layers)) place 0 = c.len.ensures ∙ c.index-layers-layers.result.columns.ok.0 ∙ ap (λ (layer : Layer). length layer.columns.items) c.index-layers-layers.is ∙ sym (domain_at layers place c.index-layers-layers.result test) in
    let few = (c.requires.sizes place 0 (omega (arith, length-domains layers))).few_values in
    subst (Fits w32) (sym value) (grind (arith, common_steps, few))

pub loop-place-preserved : goal.loop-place-preserved
loop-place-preserved c =
    let layers : List Layer = c.args.layers.now in
    let place = c.loop-place.place in
    let test = c.loop-place-test.true in
    let value : c.len.result ≡ get_or (domains (reverse layers)) place 0 = c.len.ensures ∙ c.index-layers-layers.result.columns.ok.0 ∙ ap (λ (layer : Layer). length layer.columns.items) c.index-layers-layers.is ∙ sym (domain_at layers place c.index-layers-layers.result test) in
    c.in_ok-push.ensures.ok ∙ (λ i. c.loop-place.invariant i ++ value i ∷ []) ∙ sym (take_more (domains (reverse layers)) place 0 (omega (arith, length-domains layers)))

pub returns : goal.returns
returns c =
    let layers : List Layer = c.args.layers.now in
    c.loop-place.invariant ∙ take_all c.loop-place.place (domains (reverse layers)) (let past = c.loop-place-test.false in omega (arith, length-domains layers))
