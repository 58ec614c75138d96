use Rattle.std.proofs.Common.{◌<◌, sym, subst, Some, slice_index, IfSome}
use Rattle.std.proofs.lemmas.Result.{on_ok_weaker}
use Rattle.pc_diagram.specs.Levels.{level}
use Rattle.pc_pareto.specs.Arrivals.{IsSlot, IsOwned, HasAlso}
use Rattle.pc_pareto.proofs.ArrivalLemmas.{also_same, one_value}
use Rattle.pc_pareto.proofs.arrivals.add_node.Goals as goal

pub returns-in-Some-clause-has : goal.returns-in-Some-clause-has
returns-in-Some-clause-has g c =
    let l = level c.args.diagram.now c.args.variable in
    let lt : c.in-Some.value < l.domain = subst (λ o. IfSome o (λ value. value < slice_index c.args.diagram.now.domains c.args.variable)) c.in-Some.is c.requires.chosen in
    on_ok_weaker c.add_edge.result (λ e.
    subst (λ chosen. HasAlso (IsOwned c.args.side l chosen c.args.node) c.args.lists.now.items c.add_edge.new.lists.items) (sym c.in-Some.is)
    (also_same (IsSlot c.args.side l c.args.node c.in-Some.value) (IsOwned c.args.side l (Some c.in-Some.value) c.args.node) c.args.lists.now.items c.add_edge.new.lists.items e (λ node a. one_value c.args.side l c.in-Some.value c.args.node node a lt))) c.add_edge.ensures.has

pub returns-in-None-clause-has : goal.returns-in-None-clause-has
returns-in-None-clause-has g c =
    let l = level c.args.diagram.now c.args.variable in
    on_ok_weaker c.add_values.result (λ e.
    subst (λ chosen. HasAlso (IsOwned c.args.side l chosen c.args.node) c.args.lists.now.items c.add_values.new.lists.items) (sym c.in-None.is) e) c.add_values.ensures.has
