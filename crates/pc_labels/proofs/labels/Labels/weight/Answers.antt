use Rattle.std.proofs.Common.{◌≡◌, ◌<◌, [], length, option_map, sym, ap, ◌∙◌, subst, arith}
use Rattle.std.specs.Prelude.{slice_index_or}
use Rattle.std.proofs.lemmas.List.{get_or_default}
use Rattle.pc_labels.specs.Growing.{marks_at}
use Rattle.pc_labels.specs.Kept.{KeptPaths, kept_at, weight}
use Rattle.pc_labels.specs.Marks.{Marks, weight_at}
use Rattle.pc_labels.proofs.ViewLemmas.{shown_layers, shown_width, shown_weight}
use Rattle.pc_labels.proofs.labels.Labels.weight.Goals as goal

pub index-requires : goal.index-requires
index-requires c = let n = ap (λ (v : KeptPaths). length v.layers) c.self.view_is in omega (arith, c.requires.layer, n, shown_layers c.self.inside.side c.self.inside.layers.items)

pub weight-requires : goal.weight-requires
weight-requires c =
    let n = ap (λ (v : KeptPaths). length v.layers) c.self.view_is in
    let within : c.args.layer < length c.self.inside.layers.items = omega (arith, c.requires.layer, n, shown_layers c.self.inside.side c.self.inside.layers.items) in
    let is : c.index.result.now ≡ marks_at c.self.inside.layers.items c.args.layer = c.index.ensures ∙ get_or_default c.self.inside.layers.items c.args.layer c.index.result.now _ within in
    let wide = shown_width c.self.inside.side c.self.inside.layers.items c.self.invariant.marked c.args.layer in
    let same = ap (λ (v : KeptPaths). length (slice_index_or v.layers c.args.layer [])) c.self.view_is in
    subst (λ (m : Marks). c.args.node < length m.weights) (sym is) (omega (arith, c.requires.node, wide, same))

pub returns : goal.returns
returns c =
    let n = ap (λ (v : KeptPaths). length v.layers) c.self.view_is in
    let within : c.args.layer < length c.self.inside.layers.items = omega (arith, c.requires.layer, n, shown_layers c.self.inside.side c.self.inside.layers.items) in
    let is : c.index.result.now ≡ marks_at c.self.inside.layers.items c.args.layer = c.index.ensures ∙ get_or_default c.self.inside.layers.items c.args.layer c.index.result.now _ within in
    c.weight.ensures.weight ∙ ap (λ (m : Marks). weight_at m c.args.node) is ∙ sym (shown_weight c.self.inside.side c.self.inside.layers.items c.self.invariant.marked c.args.layer c.args.node)
    ∙ ap (λ (v : KeptPaths). option_map weight (kept_at v c.args.layer c.args.node)) c.self.view_is
