use Rattle.std.proofs.Common.{◌<◌, length, arith}
use Rattle.std.proofs.lemmas.Grind.{common_steps}
use Rattle.pc_store.specs.Sets.{IsNodeAt, domains_of, id_at}
use Rattle.pc_store.proofs.SetLemmas.{IsInner, length-domains}
use Rattle.pc_store.proofs.ChildLemmas.{children_are, inner_node}
use Rattle.pc_store.proofs.store.Store.children.Goals as goal

pub index-requires : goal.index-requires
index-requires c =
    let lt : c.args.layer < length (domains_of c.self.inside.layers.items) = rw c.self.view_is c.requires.inner in
    let count = length-domains c.self.inside.layers.items in
    grind (arith, common_steps)

pub row-requires : goal.row-requires
unfolding id_at
row-requires c =
    let lt : c.args.layer < length (domains_of c.self.inside.layers.items) = rw c.self.view_is c.requires.inner in
    let known : IsNodeAt c.self.inside.layers.items c.args.layer c.args.node = rw c.self.view_is c.requires.known in
    (inner_node c.self.inside.layers.items c.self.invariant.layered c.args.layer c.args.node c.index.result.now c.index.ensures known lt).node

pub returns : goal.returns
returns c =
    let store = c.self.inside.layers.items in
    let lt : c.args.layer < length (domains_of store) = rw c.self.view_is c.requires.inner in
    let known : IsNodeAt store c.args.layer c.args.node = rw c.self.view_is c.requires.known in
    let inner : IsInner store (id_at c.args.layer c.args.node) c.index.result.now = inner_node store c.self.invariant.layered c.args.layer c.args.node c.index.result.now c.index.ensures known lt in
    rw (← c.self.view_is, c.new.ensures, c.row.ensures) (children_are store c.self.invariant.layered c.args.layer c.args.node c.index.result.now inner)
