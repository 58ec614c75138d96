use Rattle.std.proofs.Common.{◌<◌, length, arith, get_or}
use Rattle.std.proofs.lemmas.Grind.{common_steps}
use Rattle.pc_store.specs.Sets.{IsId, layer_of, domains_of}
use Rattle.pc_store.proofs.SetLemmas.{inner_read, value_within, layer_inside, child_is_id, child_has}
use Rattle.pc_store.proofs.store.Store.child.Goals as goal

pub index-requires : goal.index-requires
index-requires c =
    let lt : layer_of c.args.id < length (domains_of c.self.inside.layers.items) = rw c.self.view_is c.requires.inner in
    let inside = layer_inside c.self.inside.layers.items c.args.id lt in
    grind (arith, common_steps)

-- the id is one before the last layer
pub row-row-requires : goal.row-row-requires
row-row-requires c =
    let lt : layer_of c.args.id < length (domains_of c.self.inside.layers.items) = rw c.self.view_is c.requires.inner in
    let known : IsId c.self.inside.layers.items c.args.id = rw c.self.view_is c.requires.known in
    (inner_read c.self.inside.layers.items c.self.invariant.layered c.args.id c.index.result.now c.index.ensures known lt).node

pub overflow_add-result : goal.overflow_add-result
overflow_add-result c =
    let lt : layer_of c.args.id < length (domains_of c.self.inside.layers.items) = rw c.self.view_is c.requires.inner in
    let inside = layer_inside c.self.inside.layers.items c.args.id lt in
    let few = c.self.invariant.few_layers in
    omega arith

pub bounds-row-value : goal.bounds-row-value
bounds-row-value c =
    let store = c.self.inside.layers.items in
    let lt : layer_of c.args.id < length (domains_of store) = rw c.self.view_is c.requires.inner in
    let known : IsId store c.args.id = rw c.self.view_is c.requires.known in
    let range : c.args.value < get_or (domains_of store) (layer_of c.args.id) 0 = rw c.self.view_is c.requires.in_range in
    let inner = inner_read store c.self.invariant.layered c.args.id c.index.result.now c.index.ensures known lt in
    let below = value_within store c.args.id c.index.result.now inner c.args.value range in
    rw c.row-row.ensures (let width = inner.row.width in omega arith)

pub returns-clause-is_id : goal.returns-clause-is_id
returns-clause-is_id c =
    let store = c.self.inside.layers.items in
    let lt : layer_of c.args.id < length (domains_of store) = rw c.self.view_is c.requires.inner in
    let known : IsId store c.args.id = rw c.self.view_is c.requires.known in
    let range : c.args.value < get_or (domains_of store) (layer_of c.args.id) 0 = rw c.self.view_is c.requires.in_range in
    let inner = inner_read store c.self.invariant.layered c.args.id c.index.result.now c.index.ensures known lt in
    let below = value_within store c.args.id c.index.result.now inner c.args.value range in
    rw (← c.self.view_is, c.row-row.ensures) (child_is_id store c.self.invariant.layered c.args.id c.index.result.now inner c.args.value below)

pub returns-clause-set : goal.returns-clause-set
returns-clause-set c =
    let store = c.self.inside.layers.items in
    let lt : layer_of c.args.id < length (domains_of store) = rw c.self.view_is c.requires.inner in
    let known : IsId store c.args.id = rw c.self.view_is c.requires.known in
    let inner = inner_read store c.self.invariant.layered c.args.id c.index.result.now c.index.ensures known lt in
    rw (← c.self.view_is, c.row-row.ensures) (child_has store c.args.id c.index.result.now inner c.args.value)
