use Rattle.std.proofs.Common.{◌≡◌, ◌∙◌, ◌+◌, subst, arith, ap, get_or, None}
use Rattle.pc_diagram.specs.Levels.{level}
use Rattle.pc_pareto.specs.Arrivals.{IsSlot, IsOwned, HasAlso}
use Rattle.pc_pareto.proofs.ArrivalLemmas.{IsOwnedBelow, also_then, also_same, all_values, value_more}
use Rattle.pc_pareto.proofs.arrivals.add_values.Goals as goal

pub loop-value-preserved : goal.loop-value-preserved
loop-value-preserved g c =
    let l = level c.args.diagram.now c.args.variable in
    record {
      has = also_then (IsOwnedBelow c.args.side l c.args.node c.loop-value.value) (IsSlot c.args.side l c.args.node c.loop-value.value) (IsOwnedBelow c.args.side l c.args.node (c.loop-value.value + 1))
          c.args.lists.now.items c.loop-value.lists.items c.add_edge.new.lists.items c.loop-value.invariant.has c.in_ok-add_edge.ensures.has (value_more c.args.side l c.args.node c.loop-value.value);
      steps = omega (arith, c.add_edge.ensures.steps);
    }

pub returns-clause-has : goal.returns-clause-has
returns-clause-has g c =
    let l = level c.args.diagram.now c.args.variable in
    let end : c.loop-value.value ≡ get_or c.domains.result.now c.args.variable 0 = omega arith in
    let whole : c.loop-value.value ≡ l.domain = end ∙ ap (λ ds. get_or ds c.args.variable 0) c.domains.ensures.domains in
    also_same (IsOwnedBelow c.args.side l c.args.node l.domain) (IsOwned c.args.side l None c.args.node) c.args.lists.now.items c.loop-value.lists.items
    (subst (λ n. HasAlso (IsOwnedBelow c.args.side l c.args.node n) c.args.lists.now.items c.loop-value.lists.items) whole c.loop-value.invariant.has) (all_values c.args.side l c.args.node)
