use Rattle.std.proofs.Common.{◌+◌, None, sym, ap, ◌∙◌, subst, arith}
use Rattle.std.specs.Prelude.{slice_index}
use Rattle.std.proofs.lemmas.List.{get_or_default}
use Rattle.pc_diagram.specs.Levels.{level}
use Rattle.pc_diagram.specs.Weight.{plus}
use Rattle.pc_labels.specs.declared.step.Step.{Step}
use Rattle.pc_labels.specs.Marks.{offered, AreMarks}
use Rattle.pc_labels.specs.SoFar.{AreHeadsSoFar, widened}
use Rattle.pc_labels.proofs.HeadsSoFar.{heads-dead, heads-live, heads-end, in_range-of, below-of}
use Rattle.pc_labels.proofs.from_root.offer_slots.Goals as goal
use Rattle.pc_labels.proofs.from_root.offer_slots.Goals.{in-Some, in_default}

pub plus_path-requires-clause-some : goal.plus_path-requires-clause-some
plus_path-requires-clause-some g c e =
    c.requires.some (record { node = c.args.node; value = c.loop-value.value }) (c.loop-value.auto.value, c.loop-value-test.true)
    (sym (c.index-added.ensures ∙ get_or_default c.args.slots.now.weights.items c.loop-value.value c.index-added.result.now None (omega (arith, c.requires.weights, c.loop-value-test.true))) ∙ e)

pub plus_path-requires-clause-range : goal.plus_path-requires-clause-range
plus_path-requires-clause-range g c =
    in_range-of _ _ _ _ _ (c.requires.place (record { node = c.args.node; value = c.loop-value.value }) (c.loop-value.auto.value, c.loop-value-test.true))
    (c.widened-widened.ensures ∙ ap (λ ds. widened (slice_index ds c.args.variable) c.args.before.now c.args.node) c.domains.ensures.domains)
    (c.index-added.ensures ∙ get_or_default c.args.slots.now.weights.items c.loop-value.value c.index-added.result.now None (omega (arith, c.requires.weights, c.loop-value-test.true)))

pub offer-requires-clause-rank : goal.offer-requires-clause-rank
offer-requires-clause-rank g c =
    below-of _ _ _ _ _ (c.requires.place (record { node = c.args.node; value = c.loop-value.value }) (c.loop-value.auto.value, c.loop-value-test.true)) c.loop-value.invariant.so_far.limit
    (c.plus_path.ensures ∙ ap (λ w. plus w c.index-added.result.now) (c.widened-widened.ensures ∙ ap (λ ds. widened (slice_index ds c.args.variable) c.args.before.now c.args.node) c.domains.ensures.domains)
    ∙ ap (plus _) (c.index-added.ensures ∙ get_or_default c.args.slots.now.weights.items c.loop-value.value c.index-added.result.now None (omega (arith, c.requires.weights, c.loop-value-test.true))))

pub loop-value-preserved : goal.loop-value-preserved
loop-value-preserved g c = elim c.match-edge.branch [
  | in-Some w ↦
      let here : Step = record { node = c.args.node; value = c.loop-value.value } in
      let weight_is = w.plus_path.ensures ∙ ap (λ x. plus x w.index-added.result.now) (c.widened-widened.ensures ∙ ap (λ ds. widened (slice_index ds c.args.variable) c.args.before.now c.args.node) c.domains.ensures.domains)
      ∙ ap (plus _) (w.index-added.ensures ∙ get_or_default c.args.slots.now.weights.items c.loop-value.value w.index-added.result.now None (omega (arith, c.requires.weights, c.loop-value-test.true))) in
      record {
        so_far = subst (λ m. AreHeadsSoFar (level c.args.diagram.now c.args.variable) c.args.slots.now c.args.before.now c.args.node (c.loop-value.value + 1) m)
            (sym (w.next-is ∙ w.offer.ensures.offered ∙ ap (λ x. offered c.loop-value.next w.in-Some.target x here) weight_is))
            (heads-live _ _ _ c.args.node c.loop-value.value w.in-Some.target _ c.requires.node (c.loop-value.auto.value, c.loop-value-test.true) (sym c.edge.ensures.edge ∙ w.in-Some.is) c.loop-value.invariant.so_far);
        marks = λ _. subst AreMarks (sym w.next-is) w.offer.ensures.marks;
        steps = omega (arith, c.loop-value.invariant.steps, c.edge.ensures.step, c.loop-value.auto.value);
      }
  | in_default w ↦ record {
    so_far = subst (λ m. AreHeadsSoFar (level c.args.diagram.now c.args.variable) c.args.slots.now c.args.before.now c.args.node (c.loop-value.value + 1) m) (sym w.next-is)
        (heads-dead _ _ _ c.args.node c.loop-value.value _ (sym c.edge.ensures.edge ∙ w.in_default.is) c.loop-value.invariant.so_far);
    marks = λ before. subst AreMarks (sym w.next-is) (c.loop-value.invariant.marks before);
    steps = omega (arith, c.loop-value.invariant.steps, c.edge.ensures.step, c.loop-value.auto.value);
  }
]

pub returns-clause-so_far : goal.returns-clause-so_far
returns-clause-so_far g c = heads-end _ _ _ c.args.node c.loop-value.value _ c.loop-value-test.false c.loop-value.invariant.so_far
