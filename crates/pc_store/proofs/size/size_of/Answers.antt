use Rattle.std.proofs.Common.{◌≡◌, ◌+◌, ◌<◌, [], ◌∷◌, length, subst, sym, arith, All}
use Rattle.std.specs.List.{flat_map}
use Rattle.std.proofs.lemmas.Grind.{common_steps}
use Rattle.pc_store.specs.Each.{NamesEach}
use Rattle.pc_store.specs.Layered.{row_of}
use Rattle.pc_store.proofs.EachLemmas.{each_none}
use Rattle.pc_store.proofs.SizeLemmas.{counted_first, counted_more, counted_within, counted_all}
use Rattle.pc_store.proofs.size.size_of.Goals as goal

pub loop-layer-init : goal.loop-layer-init
loop-layer-init c =
    let names : NamesEach (c.args.node ∷ []) c.add_each.new.set.keys = c.in_ok-add_each.ensures [] (subst (NamesEach []) (sym c.new-nodes.ensures.empty) each_none) in
    counted_first c.args.layers.now c.requires.layered c.args.node c.requires.is_node c.add_each.new.set.keys c.len-count.result names c.len-count.ensures.len

pub children_of-requires : goal.children_of-requires
children_of-requires c =
    subst (All (λ n. n < length c.layer-item.result.table)) (sym c.as_slice.ensures.keys)
    (counted_within c.args.layers.now c.requires.layered c.args.node c.requires.is_node c.loop-layer.layer-index c.layer-item.result c.loop-layer-test.true c.layer-item.is c.loop-layer.nodes.keys c.loop-layer.count c.loop-layer.invariant)

pub loop-layer-preserved : goal.loop-layer-preserved
loop-layer-preserved c =
    let names : NamesEach (flat_map (row_of c.layer-item.result) c.loop-layer.nodes.keys) c.in_ok-nodes.nodes.keys =
    subst (λ l. NamesEach (flat_map (row_of c.layer-item.result) l) c.in_ok-nodes.nodes.keys) c.as_slice.ensures.keys c.in_ok-nodes.ensures in
    let sum_is : c.in_ok-count.count ≡ c.loop-layer.count + length c.in_ok-nodes.nodes.keys = grind (arith, common_steps, c.len.ensures.len) in
    counted_more c.args.layers.now c.requires.layered c.args.node c.requires.is_node c.loop-layer.layer-index c.layer-item.result c.loop-layer-test.true c.layer-item.is c.loop-layer.nodes.keys c.in_ok-nodes.nodes.keys c.loop-layer.count c.in_ok-count.count c.loop-layer.invariant names sum_is

pub returns : goal.returns
returns c =
    let end : c.loop-layer.layer-index ≡ length c.args.layers.now = grind (arith, common_steps) in
    counted_all c.args.layers.now c.args.node c.loop-layer.layer-index c.loop-layer.nodes.keys c.loop-layer.count end c.loop-layer.invariant
