use Rattle.std.proofs.Common.{◌≡◌, ◌∙◌, ◌+◌, [], replicate, sym, subst, arith, ap, slice_index}
use Rattle.pc_diagram.specs.Levels.{level}
use Rattle.pc_pareto.specs.Arrivals.{IsOwned, IsArrival, HasAlso, target_count}
use Rattle.pc_pareto.proofs.ArrivalLemmas.{also_then, also_all, also_nothing, node_more, no_nodes}
use Rattle.pc_pareto.proofs.arrivals.arrivals.Goals as goal

pub loop-node-init : goal.loop-node-init
loop-node-init g c =
    let l = level c.args.diagram.now c.args.variable in
    let start : c.in_ok-lists.lists.items ≡ replicate (target_count c.args.side l) [] = c.in_ok-lists.ensures ∙ ap (λ n. replicate n []) c.target_count.ensures in
    record {
      has = subst (HasAlso (IsArrival c.args.side l c.args.chosen 0) (replicate (target_count c.args.side l) [])) (sym start) (also_nothing (IsArrival c.args.side l c.args.chosen 0) (replicate (target_count c.args.side l) []) (no_nodes c.args.side l c.args.chosen));
      steps = omega arith;
    }

pub loop-node-preserved : goal.loop-node-preserved
loop-node-preserved g c =
    let l = level c.args.diagram.now c.args.variable in
    record {
      has = also_then (IsArrival c.args.side l c.args.chosen c.loop-node.node) (IsOwned c.args.side l c.args.chosen c.loop-node.node) (IsArrival c.args.side l c.args.chosen (c.loop-node.node + 1))
          (replicate (target_count c.args.side l) []) c.loop-node.lists.items c.add_node.new.lists.items c.loop-node.invariant.has c.in_ok-add_node.ensures.has (node_more c.args.side l c.args.chosen c.loop-node.node);
      steps = omega (arith, c.add_node.ensures.steps);
    }

pub returns-clause-length : goal.returns-clause-length
returns-clause-length g c =
    let l = level c.args.diagram.now c.args.variable in
    (also_all (IsArrival c.args.side l c.args.chosen c.loop-node.node) (target_count c.args.side l) c.loop-node.lists.items c.loop-node.invariant.has).0

pub returns-clause-arrivals : goal.returns-clause-arrivals
returns-clause-arrivals g c =
    let l = level c.args.diagram.now c.args.variable in
    let end : c.loop-node.node ≡ slice_index c.args.diagram.now.sizes c.args.variable = omega (arith, c.nodes-node-end.ensures) in
    (also_all (IsArrival c.args.side l c.args.chosen (slice_index c.args.diagram.now.sizes c.args.variable)) (target_count c.args.side l) c.loop-node.lists.items
    (subst (λ n. HasAlso (IsArrival c.args.side l c.args.chosen n) (replicate (target_count c.args.side l) []) c.loop-node.lists.items) end c.loop-node.invariant.has)).1
