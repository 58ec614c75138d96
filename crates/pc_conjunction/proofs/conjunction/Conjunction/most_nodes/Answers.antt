use Rattle.std.proofs.Common.{◌≡◌, ◌<◌, ◌≤◌, ◌∙◌, List, length, reverse, take, sym, ap, subst, arith}
use Rattle.std.proofs.lemmas.Grind.{common_steps}
use Rattle.std.proofs.lemmas.List.{take_all, length-reverse}
use Rattle.pc_diagram.specs.Rests.{size}
use Rattle.pc_conjunction.specs.declared.layer.Layer.{Layer}
use Rattle.pc_conjunction.specs.Places.{domains, accepts, IsLayered}
use Rattle.pc_conjunction.specs.Conjunctions.{conjunction_domains, contains}
use Rattle.pc_conjunction.proofs.PlaceLemmas.{two_places}
use Rattle.pc_conjunction.proofs.SizeLemmas.{bound, bound_more, two_from_last, size_most}
use Rattle.pc_conjunction.proofs.conjunction.Conjunction.most_nodes.Goals as goal

pub overflow_sub-most : goal.overflow_sub-most
overflow_sub-most c =
    let items : List Layer = c.as_slice-layer-items.result.now in
    let layered : IsLayered (reverse items) = subst (λ (ls : List Layer). IsLayered (reverse ls)) (sym {A = List Layer} c.as_slice-layer-items.ensures) c.self.invariant.layered in
    let two = two_from_last items layered c.loop-layer.layer-index c.layer-item.result c.loop-layer-test.true in
    let same : 1 < c.layer-item.result.count = subst (λ (l : Layer). 1 < l.count) (sym c.layer-item.is) two in
    omega arith

pub overflow_add-most : goal.overflow_add-most
overflow_add-most c =
    let small = c.loop-layer.invariant.small in
    let few = c.self.invariant.few_layers in
    let long : length c.as_slice-layer-items.result.now ≡ length (reverse c.self.inside.layers) = ap {A = List Layer} length c.as_slice-layer-items.ensures ∙ sym (length-reverse c.self.inside.layers) in
    let test = c.loop-layer-test.true in
    grind (arith, common_steps, small, few, long, test)

pub loop-layer-preserved : goal.loop-layer-preserved
loop-layer-preserved c =
    let items : List Layer = c.as_slice-layer-items.result.now in
    let more = bound_more items c.loop-layer.layer-index c.layer-item.result c.loop-layer-test.true c.layer-item.is in
    let before = c.loop-layer.invariant.most_is in
    let small = c.loop-layer.invariant.small in
    record {
      most_is = omega arith;
      small = grind (arith, common_steps, small);
    }

pub returns : goal.returns
unfolding conjunction_domains contains
returns c =
    let layers : List Layer = c.self.inside.layers in
    let items : List Layer = c.as_slice-layer-items.result.now in
    let all : take c.loop-layer.layer-index items ≡ layers = take_all c.loop-layer.layer-index items c.loop-layer-test.false ∙ c.as_slice-layer-items.ensures in
    let most : size (domains (reverse layers)) (accepts (reverse layers) 1) ≤ bound (reverse layers) = size_most (reverse layers) c.self.invariant.layered 1 (two_places (reverse layers) c.self.invariant.layered) in
    let is : c.loop-layer.most ≡ bound (reverse layers) = c.loop-layer.invariant.most_is ∙ ap (λ (ls : List Layer). bound (reverse ls)) all in
    subst (λ (ls : List Layer). size (conjunction_domains ls) (contains ls) ≤ c.loop-layer.most) c.self.view_is (omega arith)
