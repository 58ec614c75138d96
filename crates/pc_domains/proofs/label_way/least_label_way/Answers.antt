-- One node more: passed over where it can't win; else the lesser of the way so far and of what is linked over its edge, if
-- anything is.
use Rattle.std.proofs.Common.{◌≡◌, ◌+◌, option_map, sym, subst, ◌∙◌, ap, arith}
use Rattle.std.specs.Prelude.{slice_index}
use Rattle.pc_labels.specs.Kept.{kept_at, weight}
use Rattle.pc_domains.specs.LabelWays.{IsLeastLabelWay, linked, linked_at, linked_over}
use Rattle.pc_domains.proofs.FloorLemmas.{pass_over}
use Rattle.pc_domains.proofs.LabelWayLemmas.{next_way, no_link}
use Rattle.pc_domains.proofs.label_way.least_label_way.Goals as goal
use Rattle.pc_domains.proofs.label_way.least_label_way.Goals.{else-can_win, then-can_win+in-Some, then-can_win+in_default}

pub loop-node-preserved : goal.loop-node-preserved
loop-node-preserved g c =
    let raw = c.args.diagram.now in
    let variable = c.args.variable in
    let value = c.args.value in
    let heads = c.args.heads.now in
    let tails = c.args.tails.now in
    let price = c.args.price in
    let node = c.loop-node.node in
    let least = c.loop-node.least in
    let So_far = IsLeastLabelWay raw variable value heads tails price (node + 1) in
    elim c.if-can_win.branch [
      | then-can_win+in-Some w ↦
          let target = w.in-Some.target in
          let leads = sym w.edge.ensures.edge ∙ w.in-Some.is in
          let link = w.linked-link.result in
          let over : linked_at raw heads tails price variable value node ≡ link =
          ap (linked_over heads tails price variable node) leads ∙ ap (λ h. linked price h (option_map weight (kept_at tails (variable + 1) target))) (sym c.weight-head.ensures) ∙ ap (linked price c.weight-head.result) (sym w.weight.ensures) ∙ sym w.linked-link.ensures in (
            subst So_far (sym w.least-is) (next_way raw variable value heads tails price node target least link w.lesser-least.result c.loop-node.invariant.0 leads over w.lesser-least.ensures.some w.lesser-least.ensures.none),
            omega (arith, w.steps-is, c.loop-node.invariant.1, w.edge.ensures.step),
          )
      | then-can_win+in_default w ↦ (
        subst So_far (sym w.least-is) (no_link raw variable value heads tails price node least c.loop-node.invariant.0 (ap (linked_over heads tails price variable node) (sym w.edge.ensures.edge ∙ w.in_default.is))),
        omega (arith, w.steps-is, c.loop-node.invariant.1, w.edge.ensures.step),
      )
      | else-can_win w ↦ (
        subst So_far (sym w.least-is) (pass_over raw variable value heads tails price node c.weight-head.result c.args.floor least (sym c.weight-head.ensures) c.requires.floor (sym w.if-can_win.ensures) c.loop-node.invariant.0),
        omega (arith, w.steps-is, c.loop-node.invariant.1),
      )
    ]

pub returns-clause-way : goal.returns-clause-way
returns-clause-way g c =
    let ends : c.loop-node.node ≡ slice_index c.args.diagram.now.sizes c.args.variable = omega (arith, c.nodes-node-end.ensures, c.loop-node.auto.node-end) in
    subst (λ n. IsLeastLabelWay c.args.diagram.now c.args.variable c.args.value c.args.heads.now c.args.tails.now c.args.price n c.loop-node.least) ends c.loop-node.invariant.0
