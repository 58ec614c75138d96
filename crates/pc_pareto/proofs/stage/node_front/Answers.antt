-- One run more beside what is left of those before it.
use Rattle.std.proofs.Common.{◌≡◌, ◌+◌, ◌++◌, [], length, get_or, take, sym, ap, subst, ◌∙◌, arith}
use Rattle.std.proofs.lemmas.List.{get_or_read, take_all}
use Rattle.pc_pareto.specs.declared.arrival.Arrival.{Arrival}
use Rattle.pc_pareto.specs.Items.{IsReduced}
use Rattle.pc_pareto.specs.Stages.{candidates, run}
use Rattle.pc_pareto.proofs.NumberLemmas.{flat_more}
use Rattle.pc_pareto.proofs.ReducedLemmas.{again_reduced, front_if_reduced, more_reduced}
use Rattle.pc_pareto.proofs.stage.node_front.Goals as goal

pub loop-arrival-preserved : goal.loop-arrival-preserved
loop-arrival-preserved c =
    let before = c.args.before.now in
    let arrivals = c.args.arrivals.now in
    let i = c.loop-arrival.arrival-index in
    let none : Arrival = record { node = 0; value = 0 } in
    let arrival : Arrival = get_or arrivals i none in
    let all = candidates c.args.side c.args.scale c.args.row.now before (take i arrivals) in
    let more = run c.args.side c.args.scale c.args.row.now arrival 0 (get_or before arrival.node []) in
    let items : c.as_slice-items.result.now ≡ get_or before arrival.node [] =
    c.as_slice-items.ensures ∙ get_or_read before arrival.node c.index-before-arrival.result (c.requires.nodes i none c.loop-arrival-test.true) c.index-before-arrival.is [] in
    let pushed : c.push_run.new.offered.items ≡ c.loop-arrival.offered.items ++ more =
    c.in_ok-push_run.ensures ∙ ap (λ l. c.loop-arrival.offered.items ++ run c.args.side c.args.scale c.args.row.now arrival 0 l) items in
    let next : candidates c.args.side c.args.scale c.args.row.now before (take (i + 1) arrivals) ≡ all ++ more =
    flat_more (λ (a : Arrival). run c.args.side c.args.scale c.args.row.now a 0 (get_or before a.node [])) arrivals i none c.loop-arrival-test.true in
    subst (λ l. IsReduced l c.reduce.new.items.items) (sym next)
    (again_reduced (all ++ more) c.push_run.new.offered.items c.reduce.new.items.items
    (subst (IsReduced (all ++ more)) (sym pushed) (more_reduced all c.loop-arrival.offered.items more c.loop-arrival.invariant))
    c.in_ok-most.ensures)

pub returns : goal.returns
returns c =
    let arrivals = c.args.arrivals.now in
    let ends : take c.loop-arrival.arrival-index arrivals ≡ arrivals = take_all c.loop-arrival.arrival-index arrivals (omega (arith, c.loop-arrival.auto.arrival-index-end, c.loop-arrival-test.false)) in
    front_if_reduced (candidates c.args.side c.args.scale c.args.row.now c.args.before.now arrivals) c.loop-arrival.offered.items c.of.result
    (subst (λ l. IsReduced (candidates c.args.side c.args.scale c.args.row.now c.args.before.now l) c.loop-arrival.offered.items) ends c.loop-arrival.invariant)
    c.of.ensures
