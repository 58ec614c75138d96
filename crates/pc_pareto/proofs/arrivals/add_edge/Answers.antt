use Rattle.std.proofs.Common.{◌≡◌, ◌∙◌, sym, subst, length, ap, ◌<◌}
use Rattle.std.proofs.lemmas.Result.{on_ok_weaker}
use Rattle.pc_diagram.specs.Levels.{level}
use Rattle.pc_diagram.specs.declared.side.Side.TheVariants.{Heads, Tails}
use Rattle.pc_pareto.specs.Arrivals.{IsSlot, HasAlso, target_count}
use Rattle.pc_pareto.proofs.ArrivalLemmas.{arrival, also_pushed, heads_slot, tails_slot}
use Rattle.pc_pareto.proofs.arrivals.add_edge.Goals as goal

pub returns-in-Heads-clause-has : goal.returns-in-Heads-clause-has
returns-in-Heads-clause-has g c =
    let l = level c.args.diagram.now c.args.variable in
    let lists = c.args.lists.now.items in
    let count : length lists ≡ l.next = c.requires.lists ∙ ap (λ side. target_count side l) c.in-Heads.is in
    let inside : c.in-Some.target < length lists = subst (λ n. c.in-Some.target < n) (sym count) c.in-Some.ensures.within in
    on_ok_weaker c.push_into.result (λ e.
    subst (λ side. HasAlso (IsSlot side l c.args.node c.args.value) lists c.push_into.new.lists.items) (sym c.in-Heads.is)
    (subst (HasAlso (IsSlot Heads l c.args.node c.args.value) lists) (sym e) (also_pushed (IsSlot Heads l c.args.node c.args.value) lists c.in-Some.target (arrival c.args.node c.args.value) inside (heads_slot l c.args.node c.args.value c.in-Some.target (sym c.in-Some.ensures.edge))))) c.push_into.ensures

pub returns-in-Tails-clause-has : goal.returns-in-Tails-clause-has
returns-in-Tails-clause-has g c =
    let l = level c.args.diagram.now c.args.variable in
    let lists = c.args.lists.now.items in
    let count : length lists ≡ l.size = c.requires.lists ∙ ap (λ side. target_count side l) c.in-Tails.is in
    let inside : c.args.node < length lists = subst (λ n. c.args.node < n) (sym count) c.requires.node in
    on_ok_weaker c.push_into-in-Tails.result (λ e.
    subst (λ side. HasAlso (IsSlot side l c.args.node c.args.value) lists c.push_into-in-Tails.new.lists.items) (sym c.in-Tails.is)
    (subst (HasAlso (IsSlot Tails l c.args.node c.args.value) lists) (sym e) (also_pushed (IsSlot Tails l c.args.node c.args.value) lists c.args.node (arrival c.in-Some.target c.args.value) inside (tails_slot l c.args.node c.args.value c.in-Some.target (sym c.in-Some.ensures.edge))))) c.push_into-in-Tails.ensures
