use Rattle.std.proofs.Common.{◌≡◌, [], List, ℕ, Option, get_or, sym, subst}
use Rattle.std.proofs.lemmas.List.{get_or_default}
use Rattle.pc_store.specs.declared.id.Node.{Node}
use Rattle.pc_build.proofs.EdgeLemmas.{FirstEdges, first_edges_none, first_edges_more}
use Rattle.pc_build.proofs.edges.edges_of.Goals as goal

pub loop-node-init : goal.loop-node-init
loop-node-init c =
    subst (λ (edges : List (Option ℕ)). FirstEdges c.args.store.now c.args.layer c.args.nodes.now 0 c.new-2.result.keys edges) (sym {A = List (Option ℕ)} c.new.ensures)
    (subst (λ (keys : List Node). FirstEdges c.args.store.now c.args.layer c.args.nodes.now 0 keys []) (sym {A = List Node} c.new-2.ensures.empty)
    (first_edges_none c.args.store.now c.args.layer c.args.nodes.now))

pub loop-node-preserved : goal.loop-node-preserved
loop-node-preserved c =
    let nodes = c.args.nodes.now in
    let i = c.loop-node.node-index in
    let node : Node = get_or nodes i (record { number = 0 }) in
    let read : node ≡ get_or nodes i node = get_or_default nodes i (record { number = 0 }) node c.loop-node-test.true in
    first_edges_more c.args.store.now c.args.layer nodes i node c.children-children.result c.loop-node.found.nodes.keys c.add_all.new.self.nodes.keys c.loop-node.found.edges c.add_all.new.self.edges
    read c.children-children.ensures c.in_ok-add_all.ensures c.loop-node.invariant
