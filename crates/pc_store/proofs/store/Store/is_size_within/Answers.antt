use Rattle.std.proofs.Common.{◌≡◌, ◌∙◌, sym, ap, subst, drop}
use Rattle.pc_store.specs.Layered.{IsLayered}
use Rattle.pc_store.specs.Sets.{IsId}
use Rattle.pc_store.proofs.SetLemmas.{id_inside, id_node, layered_drop, size_within}
use Rattle.pc_store.proofs.store.Store.is_size_within.Goals as goal

pub split_at-requires : goal.split_at-requires
split_at-requires c =
    let known : IsId c.self.inside.layers.items c.args.id = rw c.self.view_is c.requires in
    rw c.as_slice.ensures.value (id_inside c.self.inside.layers.items c.args.id known)

pub is_size_within-requires-clause-layered : goal.is_size_within-requires-clause-layered
is_size_within-requires-clause-layered c =
    let below : c.split_at.result.1.now ≡ drop c.args.id.layer c.self.inside.layers.items = c.split_at.ensures.back ∙ ap (drop c.args.id.layer) c.as_slice.ensures.value in
    subst IsLayered (sym below) (layered_drop c.args.id.layer c.self.inside.layers.items c.self.invariant.layered)

pub is_size_within-requires-clause-is_node : goal.is_size_within-requires-clause-is_node
is_size_within-requires-clause-is_node c =
    let known : IsId c.self.inside.layers.items c.args.id = rw c.self.view_is c.requires in
    let below : c.split_at.result.1.now ≡ drop c.args.id.layer c.self.inside.layers.items = c.split_at.ensures.back ∙ ap (drop c.args.id.layer) c.as_slice.ensures.value in
    rw below (id_node c.self.inside.layers.items c.args.id known)

pub returns : goal.returns
returns c =
    let below : c.split_at.result.1.now ≡ drop c.args.id.layer c.self.inside.layers.items = c.split_at.ensures.back ∙ ap (drop c.args.id.layer) c.as_slice.ensures.value in
    rw (← c.self.view_is) (size_within c.self.inside.layers.items c.args.id c.split_at.result.1.now below c.args.most c.is_size_within.result c.is_size_within.ensures)
