use Rattle.std.proofs.Common.{◌≡◌, ◌∙◌, ◌+◌, ◌*◌, ◌<◌, ◌≤◌, ◌++◌, ◌∷◌, [], List, length, get_or, sum, take, All, IfSome, sym, ap, subst, arith}
use Rattle.pc_diagram.specs.Levels.{level}
use Rattle.pc_diagram.specs.Costs.{IsPricePair}
use Rattle.pc_diagram.specs.declared.limits.TheConstants.{MOST_VALUES}
use Rattle.pc_pareto.specs.declared.limits.TheConstants.{MOST_LABELS, MOST_RANKS}
use Rattle.pc_diagram.specs.Choices.{value_of}
use Rattle.pc_pareto.specs.declared.arrival.Arrival.{Arrival}
use Rattle.pc_pareto.specs.declared.front_item.FrontItem.{FrontItem}
use Rattle.pc_pareto.specs.Arrivals.{variable_at, target_count}
use Rattle.pc_pareto.specs.Bounds.{IsSmallNode, IsScaleOf}
use Rattle.pc_pareto.specs.Fronts.{layer_at, sizes_from}
use Rattle.pc_pareto.specs.Pass.{IsPass}
use Rattle.pc_pareto.specs.Stages.{AreStageOf, stage_size}
use Rattle.pc_pareto.proofs.PassLemmas.{Knows, Arrive, known_scale, chosen_within, fault_weaker, known_nodes, known_values, known_row, known_before, known_fault, known_ranks, known_pass, known_sum}
use Rattle.pc_pareto.proofs.pass.extend.Goals as goal

pub arrivals-requires-clause-chosen : goal.arrivals-requires-clause-chosen
arrivals-requires-clause-chosen g c =
    subst (λ o. IfSome o (λ value. value < get_or c.args.diagram.now.domains c.variable_at-variable.result 0)) (sym c.value_of.ensures) (chosen_within c.args.diagram.now.domains c.args.choices.now c.variable_at-variable.result c.requires.choices)

pub next_stage-requires-clause-row : goal.next_stage-requires-clause-row
next_stage-requires-clause-row g c =
    let side = c.args.side in
    let raw = c.args.diagram.now in
    let costs = c.args.costs.now in
    let choices = c.args.choices.now in
    let d = c.args.distance in
    let stages = c.args.stages.now in
    let limit = c.args.limit.now in
    let total = c.args.total.now in
    let scale = c.scale_of-scale.result in
    let lists = c.in_ok-lists.lists.items in
    let v = c.variable_at-variable.result in
    let v_is : v ≡ variable_at side (length raw.domains) d = c.variable_at-variable.ensures.is in
    let row_is : c.row_of-row.result.now ≡ get_or costs (variable_at side (length raw.domains) d) [] = c.row_of-row.ensures ∙ ap (λ v. get_or costs v []) v_is in
    let before_is : c.stage_at-before.result.now ≡ get_or stages d [] = c.stage_at-before.ensures in
    let lists_are : c.as_slice.result.now ≡ lists = c.as_slice.ensures.value in
    let k : Knows side raw costs choices d stages limit total scale lists = record {
      can = c.requires.canonical;
      priced = c.requires.costs;
      lt = c.requires.distance;
      pass = c.requires.pass;
      count = subst (λ v. length lists ≡ target_count side (level raw v)) v_is c.in_ok-lists.ensures.length;
      arrive = subst (λ v. Arrive side (level raw v) (value_of choices v) (get_or raw.sizes v 0) lists) v_is (subst (λ o. Arrive side (level raw v) o (get_or raw.sizes v 0) lists) c.value_of.ensures c.in_ok-lists.ensures.arrivals);
      fits = subst (IsScaleOf side scale limit) (c.domain_of-domain.ensures.is ∙ ap (λ v. get_or raw.domains v 0) v_is) c.scale_of-scale.ensures;
    } in
    subst (All IsPricePair) (sym row_is) (known_row side raw costs choices d stages limit total scale lists k)

pub next_stage-requires-clause-before : goal.next_stage-requires-clause-before
next_stage-requires-clause-before g c =
    let side = c.args.side in
    let raw = c.args.diagram.now in
    let costs = c.args.costs.now in
    let choices = c.args.choices.now in
    let d = c.args.distance in
    let stages = c.args.stages.now in
    let limit = c.args.limit.now in
    let total = c.args.total.now in
    let scale = c.scale_of-scale.result in
    let lists = c.in_ok-lists.lists.items in
    let v = c.variable_at-variable.result in
    let v_is : v ≡ variable_at side (length raw.domains) d = c.variable_at-variable.ensures.is in
    let row_is : c.row_of-row.result.now ≡ get_or costs (variable_at side (length raw.domains) d) [] = c.row_of-row.ensures ∙ ap (λ v. get_or costs v []) v_is in
    let before_is : c.stage_at-before.result.now ≡ get_or stages d [] = c.stage_at-before.ensures in
    let lists_are : c.as_slice.result.now ≡ lists = c.as_slice.ensures.value in
    let k : Knows side raw costs choices d stages limit total scale lists = record {
      can = c.requires.canonical;
      priced = c.requires.costs;
      lt = c.requires.distance;
      pass = c.requires.pass;
      count = subst (λ v. length lists ≡ target_count side (level raw v)) v_is c.in_ok-lists.ensures.length;
      arrive = subst (λ v. Arrive side (level raw v) (value_of choices v) (get_or raw.sizes v 0) lists) v_is (subst (λ o. Arrive side (level raw v) o (get_or raw.sizes v 0) lists) c.value_of.ensures c.in_ok-lists.ensures.arrivals);
      fits = subst (IsScaleOf side scale limit) (c.domain_of-domain.ensures.is ∙ ap (λ v. get_or raw.domains v 0) v_is) c.scale_of-scale.ensures;
    } in
    subst (All (IsSmallNode MOST_RANKS)) (sym before_is) (known_before side raw costs choices d stages limit total scale lists k)

pub next_stage-requires-clause-nodes : goal.next_stage-requires-clause-nodes
next_stage-requires-clause-nodes g c =
    let side = c.args.side in
    let raw = c.args.diagram.now in
    let costs = c.args.costs.now in
    let choices = c.args.choices.now in
    let d = c.args.distance in
    let stages = c.args.stages.now in
    let limit = c.args.limit.now in
    let total = c.args.total.now in
    let scale = c.scale_of-scale.result in
    let lists = c.in_ok-lists.lists.items in
    let v = c.variable_at-variable.result in
    let v_is : v ≡ variable_at side (length raw.domains) d = c.variable_at-variable.ensures.is in
    let row_is : c.row_of-row.result.now ≡ get_or costs (variable_at side (length raw.domains) d) [] = c.row_of-row.ensures ∙ ap (λ v. get_or costs v []) v_is in
    let before_is : c.stage_at-before.result.now ≡ get_or stages d [] = c.stage_at-before.ensures in
    let lists_are : c.as_slice.result.now ≡ lists = c.as_slice.ensures.value in
    let k : Knows side raw costs choices d stages limit total scale lists = record {
      can = c.requires.canonical;
      priced = c.requires.costs;
      lt = c.requires.distance;
      pass = c.requires.pass;
      count = subst (λ v. length lists ≡ target_count side (level raw v)) v_is c.in_ok-lists.ensures.length;
      arrive = subst (λ v. Arrive side (level raw v) (value_of choices v) (get_or raw.sizes v 0) lists) v_is (subst (λ o. Arrive side (level raw v) o (get_or raw.sizes v 0) lists) c.value_of.ensures c.in_ok-lists.ensures.arrivals);
      fits = subst (IsScaleOf side scale limit) (c.domain_of-domain.ensures.is ∙ ap (λ v. get_or raw.domains v 0) v_is) c.scale_of-scale.ensures;
    } in
    subst (λ l. All (All (λ (a : Arrival). a.node < length c.stage_at-before.result.now)) l) (sym lists_are) (subst (λ (b : List (List FrontItem)). All (All (λ (a : Arrival). a.node < length b)) lists) (sym before_is) (known_nodes side raw costs choices d stages limit total scale lists k))

pub next_stage-requires-clause-values : goal.next_stage-requires-clause-values
next_stage-requires-clause-values g c =
    let side = c.args.side in
    let raw = c.args.diagram.now in
    let costs = c.args.costs.now in
    let choices = c.args.choices.now in
    let d = c.args.distance in
    let stages = c.args.stages.now in
    let limit = c.args.limit.now in
    let total = c.args.total.now in
    let scale = c.scale_of-scale.result in
    let lists = c.in_ok-lists.lists.items in
    let v = c.variable_at-variable.result in
    let v_is : v ≡ variable_at side (length raw.domains) d = c.variable_at-variable.ensures.is in
    let row_is : c.row_of-row.result.now ≡ get_or costs (variable_at side (length raw.domains) d) [] = c.row_of-row.ensures ∙ ap (λ v. get_or costs v []) v_is in
    let before_is : c.stage_at-before.result.now ≡ get_or stages d [] = c.stage_at-before.ensures in
    let lists_are : c.as_slice.result.now ≡ lists = c.as_slice.ensures.value in
    let k : Knows side raw costs choices d stages limit total scale lists = record {
      can = c.requires.canonical;
      priced = c.requires.costs;
      lt = c.requires.distance;
      pass = c.requires.pass;
      count = subst (λ v. length lists ≡ target_count side (level raw v)) v_is c.in_ok-lists.ensures.length;
      arrive = subst (λ v. Arrive side (level raw v) (value_of choices v) (get_or raw.sizes v 0) lists) v_is (subst (λ o. Arrive side (level raw v) o (get_or raw.sizes v 0) lists) c.value_of.ensures c.in_ok-lists.ensures.arrivals);
      fits = subst (IsScaleOf side scale limit) (c.domain_of-domain.ensures.is ∙ ap (λ v. get_or raw.domains v 0) v_is) c.scale_of-scale.ensures;
    } in
    subst (All (All (λ (a : Arrival). a.value < MOST_VALUES))) (sym lists_are) (known_values side raw costs choices d stages limit total scale lists k)

pub next_stage-requires-clause-scale : goal.next_stage-requires-clause-scale
next_stage-requires-clause-scale g c =
    let side = c.args.side in
    let raw = c.args.diagram.now in
    let costs = c.args.costs.now in
    let choices = c.args.choices.now in
    let d = c.args.distance in
    let stages = c.args.stages.now in
    let limit = c.args.limit.now in
    let total = c.args.total.now in
    let scale = c.scale_of-scale.result in
    let lists = c.in_ok-lists.lists.items in
    let v = c.variable_at-variable.result in
    let v_is : v ≡ variable_at side (length raw.domains) d = c.variable_at-variable.ensures.is in
    let row_is : c.row_of-row.result.now ≡ get_or costs (variable_at side (length raw.domains) d) [] = c.row_of-row.ensures ∙ ap (λ v. get_or costs v []) v_is in
    let before_is : c.stage_at-before.result.now ≡ get_or stages d [] = c.stage_at-before.ensures in
    let lists_are : c.as_slice.result.now ≡ lists = c.as_slice.ensures.value in
    let k : Knows side raw costs choices d stages limit total scale lists = record {
      can = c.requires.canonical;
      priced = c.requires.costs;
      lt = c.requires.distance;
      pass = c.requires.pass;
      count = subst (λ v. length lists ≡ target_count side (level raw v)) v_is c.in_ok-lists.ensures.length;
      arrive = subst (λ v. Arrive side (level raw v) (value_of choices v) (get_or raw.sizes v 0) lists) v_is (subst (λ o. Arrive side (level raw v) o (get_or raw.sizes v 0) lists) c.value_of.ensures c.in_ok-lists.ensures.arrivals);
      fits = subst (IsScaleOf side scale limit) (c.domain_of-domain.ensures.is ∙ ap (λ v. get_or raw.domains v 0) v_is) c.scale_of-scale.ensures;
    } in
    known_scale side raw costs choices d stages limit total scale lists k

pub returns-in-Err-clause-fault : goal.returns-in-Err-clause-fault
returns-in-Err-clause-fault g c =
    let side = c.args.side in
    let raw = c.args.diagram.now in
    let costs = c.args.costs.now in
    let choices = c.args.choices.now in
    let d = c.args.distance in
    let stages = c.args.stages.now in
    let limit = c.args.limit.now in
    let total = c.args.total.now in
    let scale = c.scale_of-scale.result in
    let lists = c.in_ok-lists.lists.items in
    let v = c.variable_at-variable.result in
    let v_is : v ≡ variable_at side (length raw.domains) d = c.variable_at-variable.ensures.is in
    let row_is : c.row_of-row.result.now ≡ get_or costs (variable_at side (length raw.domains) d) [] = c.row_of-row.ensures ∙ ap (λ v. get_or costs v []) v_is in
    let before_is : c.stage_at-before.result.now ≡ get_or stages d [] = c.stage_at-before.ensures in
    let lists_are : c.as_slice.result.now ≡ lists = c.as_slice.ensures.value in
    let k : Knows side raw costs choices d stages limit total scale lists = record {
      can = c.requires.canonical;
      priced = c.requires.costs;
      lt = c.requires.distance;
      pass = c.requires.pass;
      count = subst (λ v. length lists ≡ target_count side (level raw v)) v_is c.in_ok-lists.ensures.length;
      arrive = subst (λ v. Arrive side (level raw v) (value_of choices v) (get_or raw.sizes v 0) lists) v_is (subst (λ o. Arrive side (level raw v) o (get_or raw.sizes v 0) lists) c.value_of.ensures c.in_ok-lists.ensures.arrivals);
      fits = subst (IsScaleOf side scale limit) (c.domain_of-domain.ensures.is ∙ ap (λ v. get_or raw.domains v 0) v_is) c.scale_of-scale.ensures;
    } in
    let size_is : stage_size side scale c.row_of-row.result.now c.stage_at-before.result.now c.as_slice.result.now ≡ stage_size side scale (get_or costs (variable_at side (length raw.domains) d) []) (get_or stages d []) lists =
    ap (λ r. stage_size side scale r c.stage_at-before.result.now c.as_slice.result.now) row_is ∙ ap (λ b. stage_size side scale (get_or costs (variable_at side (length raw.domains) d) []) b c.as_slice.result.now) before_is
    ∙ ap (λ l. stage_size side scale (get_or costs (variable_at side (length raw.domains) d) []) (get_or stages d []) l) lists_are in
    fault_weaker (λ s l. (s ≡ side) × (l ≡ c.layer_at-layer.result) × (MOST_LABELS < total + stage_size side scale c.row_of-row.result.now c.stage_at-before.result.now c.as_slice.result.now))
    (λ s l. (s ≡ side) × (l ≡ layer_at side (length raw.domains) (d + 1)) × (MOST_LABELS < sum (take ((d + 1) + 1) (sizes_from side raw costs choices))))
    (λ s l h. known_fault side raw costs choices d stages limit total scale lists k c.layer_at-layer.result c.layer_at-layer.ensures s l (h.0, h.1, subst (λ n. MOST_LABELS < total + n) size_is h.2))
    c.in-Err.fault c.in-Err.ensures.fault

pub numbered-requires-clause-few : goal.numbered-requires-clause-few
numbered-requires-clause-few g c =
    let side = c.args.side in
    let raw = c.args.diagram.now in
    let costs = c.args.costs.now in
    let choices = c.args.choices.now in
    let d = c.args.distance in
    let stages = c.args.stages.now in
    let limit = c.args.limit.now in
    let total = c.args.total.now in
    let scale = c.scale_of-scale.result in
    let lists = c.in_ok-lists.lists.items in
    let v = c.variable_at-variable.result in
    let v_is : v ≡ variable_at side (length raw.domains) d = c.variable_at-variable.ensures.is in
    let row_is : c.row_of-row.result.now ≡ get_or costs (variable_at side (length raw.domains) d) [] = c.row_of-row.ensures ∙ ap (λ v. get_or costs v []) v_is in
    let before_is : c.stage_at-before.result.now ≡ get_or stages d [] = c.stage_at-before.ensures in
    let lists_are : c.as_slice.result.now ≡ lists = c.as_slice.ensures.value in
    let k : Knows side raw costs choices d stages limit total scale lists = record {
      can = c.requires.canonical;
      priced = c.requires.costs;
      lt = c.requires.distance;
      pass = c.requires.pass;
      count = subst (λ v. length lists ≡ target_count side (level raw v)) v_is c.in_ok-lists.ensures.length;
      arrive = subst (λ v. Arrive side (level raw v) (value_of choices v) (get_or raw.sizes v 0) lists) v_is (subst (λ o. Arrive side (level raw v) o (get_or raw.sizes v 0) lists) c.value_of.ensures c.in_ok-lists.ensures.arrivals);
      fits = subst (IsScaleOf side scale limit) (c.domain_of-domain.ensures.is ∙ ap (λ v. get_or raw.domains v 0) v_is) c.scale_of-scale.ensures;
    } in
    let are : AreStageOf side scale (get_or costs (variable_at side (length raw.domains) d) []) (get_or stages d []) lists c.in-Ok.stage =
    subst (λ l. AreStageOf side scale (get_or costs (variable_at side (length raw.domains) d) []) (get_or stages d []) l c.in-Ok.stage) lists_are
    (subst (λ b. AreStageOf side scale (get_or costs (variable_at side (length raw.domains) d) []) b c.as_slice.result.now c.in-Ok.stage) before_is
    (subst (λ r. AreStageOf side scale r c.stage_at-before.result.now c.as_slice.result.now c.in-Ok.stage) row_is c.in-Ok.ensures.stage)) in
    let size_is : stage_size side scale c.row_of-row.result.now c.stage_at-before.result.now c.as_slice.result.now ≡ stage_size side scale (get_or costs (variable_at side (length raw.domains) d) []) (get_or stages d []) lists =
    ap (λ r. stage_size side scale r c.stage_at-before.result.now c.as_slice.result.now) row_is ∙ ap (λ b. stage_size side scale (get_or costs (variable_at side (length raw.domains) d) []) b c.as_slice.result.now) before_is
    ∙ ap (λ l. stage_size side scale (get_or costs (variable_at side (length raw.domains) d) []) (get_or stages d []) l) lists_are in
    let within : total + stage_size side scale (get_or costs (variable_at side (length raw.domains) d) []) (get_or stages d []) lists ≤ MOST_LABELS = subst (λ n. n ≤ MOST_LABELS) (c.in-Ok.ensures.total ∙ ap (λ n. total + n) size_is) c.in-Ok.ensures.within in
    let sum_is = known_sum side raw costs choices d stages limit total scale lists k c.in-Ok.stage are in
    omega arith

pub numbered-requires-clause-below : goal.numbered-requires-clause-below
numbered-requires-clause-below g c =
    let side = c.args.side in
    let raw = c.args.diagram.now in
    let costs = c.args.costs.now in
    let choices = c.args.choices.now in
    let d = c.args.distance in
    let stages = c.args.stages.now in
    let limit = c.args.limit.now in
    let total = c.args.total.now in
    let scale = c.scale_of-scale.result in
    let lists = c.in_ok-lists.lists.items in
    let v = c.variable_at-variable.result in
    let v_is : v ≡ variable_at side (length raw.domains) d = c.variable_at-variable.ensures.is in
    let row_is : c.row_of-row.result.now ≡ get_or costs (variable_at side (length raw.domains) d) [] = c.row_of-row.ensures ∙ ap (λ v. get_or costs v []) v_is in
    let before_is : c.stage_at-before.result.now ≡ get_or stages d [] = c.stage_at-before.ensures in
    let lists_are : c.as_slice.result.now ≡ lists = c.as_slice.ensures.value in
    let k : Knows side raw costs choices d stages limit total scale lists = record {
      can = c.requires.canonical;
      priced = c.requires.costs;
      lt = c.requires.distance;
      pass = c.requires.pass;
      count = subst (λ v. length lists ≡ target_count side (level raw v)) v_is c.in_ok-lists.ensures.length;
      arrive = subst (λ v. Arrive side (level raw v) (value_of choices v) (get_or raw.sizes v 0) lists) v_is (subst (λ o. Arrive side (level raw v) o (get_or raw.sizes v 0) lists) c.value_of.ensures c.in_ok-lists.ensures.arrivals);
      fits = subst (IsScaleOf side scale limit) (c.domain_of-domain.ensures.is ∙ ap (λ v. get_or raw.domains v 0) v_is) c.scale_of-scale.ensures;
    } in
    let are : AreStageOf side scale (get_or costs (variable_at side (length raw.domains) d) []) (get_or stages d []) lists c.in-Ok.stage =
    subst (λ l. AreStageOf side scale (get_or costs (variable_at side (length raw.domains) d) []) (get_or stages d []) l c.in-Ok.stage) lists_are
    (subst (λ b. AreStageOf side scale (get_or costs (variable_at side (length raw.domains) d) []) b c.as_slice.result.now c.in-Ok.stage) before_is
    (subst (λ r. AreStageOf side scale r c.stage_at-before.result.now c.as_slice.result.now c.in-Ok.stage) row_is c.in-Ok.ensures.stage)) in
    λ node x h. subst (λ n. x.back.rank < limit * n) (sym (c.domain_of-domain.ensures.is ∙ ap (λ v. get_or raw.domains v 0) v_is)) (known_ranks side raw costs choices d stages limit total scale lists k c.in-Ok.stage are node x h)

pub returns-clause-pass : goal.returns-clause-pass
returns-clause-pass g c =
    let side = c.args.side in
    let raw = c.args.diagram.now in
    let costs = c.args.costs.now in
    let choices = c.args.choices.now in
    let d = c.args.distance in
    let stages = c.args.stages.now in
    let limit = c.args.limit.now in
    let total = c.args.total.now in
    let scale = c.scale_of-scale.result in
    let lists = c.in_ok-lists.lists.items in
    let v = c.variable_at-variable.result in
    let v_is : v ≡ variable_at side (length raw.domains) d = c.variable_at-variable.ensures.is in
    let row_is : c.row_of-row.result.now ≡ get_or costs (variable_at side (length raw.domains) d) [] = c.row_of-row.ensures ∙ ap (λ v. get_or costs v []) v_is in
    let before_is : c.stage_at-before.result.now ≡ get_or stages d [] = c.stage_at-before.ensures in
    let lists_are : c.as_slice.result.now ≡ lists = c.as_slice.ensures.value in
    let k : Knows side raw costs choices d stages limit total scale lists = record {
      can = c.requires.canonical;
      priced = c.requires.costs;
      lt = c.requires.distance;
      pass = c.requires.pass;
      count = subst (λ v. length lists ≡ target_count side (level raw v)) v_is c.in_ok-lists.ensures.length;
      arrive = subst (λ v. Arrive side (level raw v) (value_of choices v) (get_or raw.sizes v 0) lists) v_is (subst (λ o. Arrive side (level raw v) o (get_or raw.sizes v 0) lists) c.value_of.ensures c.in_ok-lists.ensures.arrivals);
      fits = subst (IsScaleOf side scale limit) (c.domain_of-domain.ensures.is ∙ ap (λ v. get_or raw.domains v 0) v_is) c.scale_of-scale.ensures;
    } in
    let size_is : stage_size side scale c.row_of-row.result.now c.stage_at-before.result.now c.as_slice.result.now ≡ stage_size side scale (get_or costs (variable_at side (length raw.domains) d) []) (get_or stages d []) lists =
    ap (λ r. stage_size side scale r c.stage_at-before.result.now c.as_slice.result.now) row_is ∙ ap (λ b. stage_size side scale (get_or costs (variable_at side (length raw.domains) d) []) b c.as_slice.result.now) before_is
    ∙ ap (λ l. stage_size side scale (get_or costs (variable_at side (length raw.domains) d) []) (get_or stages d []) l) lists_are in
    let are : AreStageOf side scale (get_or costs (variable_at side (length raw.domains) d) []) (get_or stages d []) lists c.in-Ok.stage =
    subst (λ l. AreStageOf side scale (get_or costs (variable_at side (length raw.domains) d) []) (get_or stages d []) l c.in-Ok.stage) lists_are
    (subst (λ b. AreStageOf side scale (get_or costs (variable_at side (length raw.domains) d) []) b c.as_slice.result.now c.in-Ok.stage) before_is
    (subst (λ r. AreStageOf side scale r c.stage_at-before.result.now c.as_slice.result.now c.in-Ok.stage) row_is c.in-Ok.ensures.stage)) in
    let new = c.in_ok-stage.stage in
    let bound = c.in_ok-stage.bound in
    let V = variable_at side (length raw.domains) d in
    let total_is : c.next_stage.new.total ≡ total + stage_size side scale (get_or costs V []) (get_or stages d []) lists = c.in-Ok.ensures.total ∙ ap (λ n. total + n) size_is in
    let within : total + stage_size side scale (get_or costs V []) (get_or stages d []) lists ≤ MOST_LABELS = subst (λ n. n ≤ MOST_LABELS) total_is c.in-Ok.ensures.within in
    let pushed : c.push.new.self ≡ stages ++ new ∷ [] = c.in_ok-push.ensures.ok in
    subst (λ st. IsPass side raw costs choices (d + 1) st bound c.next_stage.new.total) (sym pushed)
    (subst (IsPass side raw costs choices (d + 1) (stages ++ new ∷ []) bound) (sym total_is) (known_pass side raw costs choices d stages limit total scale lists k c.in-Ok.stage new bound are c.in_ok-stage.ensures within))
