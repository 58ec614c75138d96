use Rattle.std.proofs.Common.{◌<◌, List, length, sym, subst}
use Rattle.std.specs.Prelude.{IsSome}
use Rattle.pc_labels.specs.Growing.{marks_at}
use Rattle.pc_labels.specs.Marks.{Marks, weight_at}
use Rattle.pc_labels.proofs.ViewLemmas.{shown_some, within_layers}
use Rattle.pc_labels.proofs.labels.Labels.path.Goals as goal

pub push_head-requires-clause-layer : goal.push_head-requires-clause-layer
push_head-requires-clause-layer c =
    let layers = c.self.inside.layers.items in
    subst (λ (ls : List Marks). c.args.layer < length ls) (sym c.as_slice-layers.ensures.value)
    (within_layers layers c.args.layer c.args.node (shown_some c.self.inside.side layers c.self.invariant.marked c.args.self.now c.self.view_is c.args.layer c.args.node c.requires))

pub push_head-requires-clause-node : goal.push_head-requires-clause-node
push_head-requires-clause-node c =
    subst (λ (ls : List Marks). IsSome (weight_at (marks_at ls c.args.layer) c.args.node)) (sym c.as_slice-layers.ensures.value)
    (shown_some c.self.inside.side c.self.inside.layers.items c.self.invariant.marked c.args.self.now c.self.view_is c.args.layer c.args.node c.requires)

pub push_tail-requires-clause-layer : goal.push_tail-requires-clause-layer
push_tail-requires-clause-layer c =
    let layers = c.self.inside.layers.items in
    subst (λ (ls : List Marks). c.args.layer < length ls) (sym c.as_slice-layers.ensures.value)
    (within_layers layers c.args.layer c.args.node (shown_some c.self.inside.side layers c.self.invariant.marked c.args.self.now c.self.view_is c.args.layer c.args.node c.requires))

pub push_tail-requires-clause-node : goal.push_tail-requires-clause-node
push_tail-requires-clause-node c =
    subst (λ (ls : List Marks). IsSome (weight_at (marks_at ls c.args.layer) c.args.node)) (sym c.as_slice-layers.ensures.value)
    (shown_some c.self.inside.side c.self.inside.layers.items c.self.invariant.marked c.args.self.now c.self.view_is c.args.layer c.args.node c.requires)
