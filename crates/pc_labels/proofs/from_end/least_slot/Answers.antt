use Rattle.std.proofs.Common.{◌≡◌, ◌+◌, ◌*◌, None, refl, sym, ap, ◌∙◌, subst, arith}
use Rattle.std.specs.Prelude.{slice_index}
use Rattle.std.proofs.lemmas.List.{get_or_default}
use Rattle.pc_diagram.specs.Levels.{level}
use Rattle.pc_diagram.specs.Weight.{plus}
use Rattle.pc_labels.specs.declared.step.Step.{Step}
use Rattle.pc_labels.specs.declared.from_end.Mark.{Mark}
use Rattle.pc_labels.specs.Lesser.{lesser}
use Rattle.pc_labels.specs.Marks.{IsBelow}
use Rattle.pc_labels.specs.Slots.{IsLeastOf}
use Rattle.pc_labels.specs.SoFar.{HasLedOn, backward_by}
use Rattle.pc_labels.proofs.TailsSoFar.{tails-dead, tails-live, lesser-below}
use Rattle.pc_labels.proofs.HeadsSoFar.{in_range-of, below-of}
use Rattle.pc_labels.proofs.from_end.least_slot.Goals as goal
use Rattle.pc_labels.proofs.from_end.least_slot.Goals.{in-Some, in_default}

pub lesser_sum-least-requires-clause-some : goal.lesser_sum-least-requires-clause-some
lesser_sum-least-requires-clause-some g c e =
    c.requires.some (record { node = c.in-Some.target; value = c.loop-value.value }) (c.loop-value.auto.value, c.loop-value-test.true)
    (sym (c.index-added.ensures ∙ get_or_default c.args.slots.now.weights.items c.loop-value.value c.index-added.result.now None (omega (arith, c.requires.weights, c.loop-value-test.true))) ∙ e)

pub lesser_sum-least-requires-clause-place : goal.lesser_sum-least-requires-clause-place
lesser_sum-least-requires-clause-place g c =
    in_range-of _ _ _ _ _ (c.requires.place (record { node = c.in-Some.target; value = c.loop-value.value }) (c.loop-value.auto.value, c.loop-value-test.true))
    c.weight.ensures.weight
    (c.index-added.ensures ∙ get_or_default c.args.slots.now.weights.items c.loop-value.value c.index-added.result.now None (omega (arith, c.requires.weights, c.loop-value-test.true)))

pub loop-value-preserved : goal.loop-value-preserved
loop-value-preserved g c = elim c.match-edge.branch [
  | in-Some w ↦
      let here : Step = record { node = w.in-Some.target; value = c.loop-value.value } in
      let weight_is = ap (λ x. plus x w.index-added.result.now) w.weight.ensures.weight
      ∙ ap (plus _) (w.index-added.ensures ∙ get_or_default c.args.slots.now.weights.items c.loop-value.value w.index-added.result.now None (omega (arith, c.requires.weights, c.loop-value-test.true))) in
      let is : c.match-edge.least ≡ lesser c.loop-value.least (record { weight = backward_by c.args.slots.now c.args.after.now here; step = here }) =
      w.least-is ∙ w.lesser_sum-least.ensures ∙ ap (λ x. lesser c.loop-value.least (record { weight = x; step = here })) weight_is in
      record {
        least = tails-live (level c.args.diagram.now c.args.variable) c.args.slots.now c.args.after.now c.args.node c.loop-value.value w.in-Some.target c.loop-value.least
            (c.loop-value.auto.value, c.loop-value-test.true) (sym c.edge.ensures.edge ∙ w.in-Some.is) c.loop-value.invariant.least c.match-edge.least is;
        below = lesser-below _ c.loop-value.least (record { weight = backward_by c.args.slots.now c.args.after.now here; step = here }) c.match-edge.least c.loop-value.invariant.below
            (below-of _ _ _ _ _ (c.requires.place here (c.loop-value.auto.value, c.loop-value-test.true)) refl refl) is;
        steps = omega (arith, c.loop-value.invariant.steps, c.edge.ensures.step, c.loop-value.auto.value);
      }
  | in_default w ↦ record {
    least = subst (λ (m : Mark). IsLeastOf (HasLedOn (level c.args.diagram.now c.args.variable) c.args.slots.now c.args.node (c.loop-value.value + 1)) (backward_by c.args.slots.now c.args.after.now) m.weight m.step) (sym w.least-is)
        (tails-dead (level c.args.diagram.now c.args.variable) c.args.slots.now c.args.after.now c.args.node c.loop-value.value c.loop-value.least.weight c.loop-value.least.step (sym c.edge.ensures.edge ∙ w.in_default.is) c.loop-value.invariant.least);
    below = subst (λ (m : Mark). IsBelow (c.args.after.now.limit * slice_index c.args.diagram.now.domains c.args.variable) m.weight) (sym w.least-is) c.loop-value.invariant.below;
    steps = omega (arith, c.loop-value.invariant.steps, c.edge.ensures.step, c.loop-value.auto.value);
  }
]

pub returns-clause-least : goal.returns-clause-least
returns-clause-least g c =
    let last : c.loop-value.value ≡ c.args.slots.now.values.end = let most = c.loop-value.auto.value-end c.requires.order in omega (arith, most, c.loop-value-test.false) in
    subst (λ v. IsLeastOf (HasLedOn (level c.args.diagram.now c.args.variable) c.args.slots.now c.args.node v) (backward_by c.args.slots.now c.args.after.now) c.loop-value.least.weight c.loop-value.least.step) last c.loop-value.invariant.least
