use Rattle.std.proofs.Common.{◌≡◌, ◌∙◌, ◌+◌, ◌<◌, ℕ, [], ◌∷◌, ◌++◌, length, get_or, sym, ap, subst, refl, arith}
use Rattle.std.proofs.lemmas.List.{get_or_read, length_push}
use Rattle.std.proofs.lemmas.List.Sums.{sum_by_more, sum_by_more_le}
use Rattle.pc_pareto.specs.Items.{IsFrontOf}
use Rattle.pc_pareto.specs.Stages.{candidates, front_size}
use Rattle.pc_pareto.proofs.StageLemmas.{size_is, each_more}
use Rattle.pc_pareto.proofs.stage.next_stage.Goals as goal

pub returns-then-size-total-clause-fault : goal.returns-then-size-total-clause-fault
returns-then-size-total-clause-fault c =
    let arrivals = c.args.arrivals.now in
    let i = c.loop-into.into-index in
    let into : c.as_slice.result.now ≡ get_or arrivals i [] = c.as_slice.ensures ∙ get_or_read arrivals i c.into-item.result c.loop-into-test.true c.into-item.is [] in
    let front = subst (λ a. IsFrontOf (candidates c.args.side c.args.scale c.args.row.now c.args.before.now a) c.in_ok-front.front) into c.in_ok-front.ensures in
    let size : length c.as_slice-in-loop-into.result.now ≡ front_size c.args.side c.args.scale c.args.row.now c.args.before.now (get_or arrivals i []) =
    ap length c.as_slice-in-loop-into.ensures ∙ size_is c.args.side c.args.scale c.args.row.now c.args.before.now (get_or arrivals i []) c.in_ok-front.front front in
    let most = sum_by_more_le (front_size c.args.side c.args.scale c.args.row.now c.args.before.now) arrivals i [] c.loop-into-test.true in
    (refl, refl, omega arith)

pub loop-into-preserved : goal.loop-into-preserved
loop-into-preserved c =
    let arrivals = c.args.arrivals.now in
    let i = c.loop-into.into-index in
    let into : c.as_slice.result.now ≡ get_or arrivals i [] = c.as_slice.ensures ∙ get_or_read arrivals i c.into-item.result c.loop-into-test.true c.into-item.is [] in
    let front = subst (λ a. IsFrontOf (candidates c.args.side c.args.scale c.args.row.now c.args.before.now a) c.in_ok-front.front) into c.in_ok-front.ensures in
    let size : length c.as_slice-in-loop-into.result.now ≡ front_size c.args.side c.args.scale c.args.row.now c.args.before.now (get_or arrivals i []) =
    ap length c.as_slice-in-loop-into.ensures ∙ size_is c.args.side c.args.scale c.args.row.now c.args.before.now (get_or arrivals i []) c.in_ok-front.front front in
    let more = sum_by_more (front_size c.args.side c.args.scale c.args.row.now c.args.before.now) arrivals i [] c.loop-into-test.true in
    let pushed : c.push.new.self ≡ c.loop-into.stage ++ c.in_ok-front.front ∷ [] = c.in_ok-push.ensures.ok in
    record {
      count = ap length pushed ∙ length_push c.loop-into.stage c.in_ok-front.front ∙ ap (λ n. n + 1) c.loop-into.invariant.count;
      fronts = subst (λ stage. (node : ℕ) → node < i + 1 → IsFrontOf (candidates c.args.side c.args.scale c.args.row.now c.args.before.now (get_or arrivals node [])) (get_or stage node [])) (sym pushed)
          (each_more (λ node items. IsFrontOf (candidates c.args.side c.args.scale c.args.row.now c.args.before.now (get_or arrivals node [])) items) c.loop-into.stage c.in_ok-front.front [] i c.loop-into.invariant.count c.loop-into.invariant.fronts front);
      total = omega arith;
      within = omega arith;
    }
