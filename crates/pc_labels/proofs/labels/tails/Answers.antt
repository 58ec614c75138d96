use Rattle.std.proofs.Common.{◌≡◌, ◌+◌, ◌-◌, ◌<◌, ◌≤◌, [], ◌∷◌, ◌++◌, length, drop, refl, sym, ap, ◌∙◌, subst, arith}
use Rattle.std.specs.Prelude.{slice_index, slice_index_or}
use Rattle.pc_diagram.specs.NodePaths.{tails}
use Rattle.pc_labels.specs.Kept.{kept_tails}
use Rattle.pc_labels.specs.Labels.{IsLabelled, slots_of}
use Rattle.pc_labels.specs.Growing.{AreTailsFrom}
use Rattle.pc_labels.proofs.CountLemmas.{steps_backward, backward_within}
use Rattle.pc_labels.proofs.GrowLemmas.{tails-begin}
use Rattle.pc_labels.proofs.KeptLemmas.{length-tails}
use Rattle.pc_labels.proofs.labels.tails.Goals as goal

pub loop-made-init : goal.loop-made-init
loop-made-init g c = record {
  made = subst (λ ls. AreTailsFrom c.args.diagram.now c.args.choices.now c.args.costs.now (length c.args.diagram.now.domains - 0) ls) (sym (c.in_ok-push.ensures.items ∙ ap (λ ls. ls ++ c.in_ok-start.field-0 ∷ []) c.in_ok-layers.ensures.items))
      (subst (λ n. AreTailsFrom c.args.diagram.now c.args.choices.now c.args.costs.now n (c.in_ok-start.field-0 ∷ [])) (let z : length c.args.diagram.now.domains ≡ length c.args.diagram.now.domains - 0 = omega arith in z) (tails-begin c.args.diagram.now c.domains-domains.ensures.canonical c.args.choices.now c.args.costs.now c.requires.costs _ c.in_ok-start.ensures.weights c.in_ok-start.ensures.marks));
  steps = omega arith;
}

pub returns-in_err-push_tails-clause-steps : goal.returns-in_err-push_tails-clause-steps
returns-in_err-push_tails-clause-steps g c =
    let n = length c.args.diagram.now.domains in
    let lt : c.loop-made.made < length c.args.diagram.now.domains = omega (arith, c.loop-made-test.true, ap length c.domains-domains.ensures.domains) in
    backward_within c.args.diagram.now c.args.choices.now c.args.steps.now c.push_tails.new.steps c.loop-made.made n lt
    (steps_backward c.args.diagram.now c.args.choices.now c.args.steps.now c.loop-made.steps c.push_tails.new.steps c.loop-made.made n lt c.loop-made.invariant.steps (subst (λ i. c.push_tails.new.steps ≤ c.loop-made.steps + slots_of c.args.diagram.now c.args.choices.now i) (ap (λ ds. length ds - 1 - c.loop-made.made) c.domains-domains.ensures.domains) c.push_tails.ensures.steps))

pub loop-made-preserved : goal.loop-made-preserved
loop-made-preserved g c =
    let n = length c.args.diagram.now.domains in
    let lt : c.loop-made.made < length c.args.diagram.now.domains = omega (arith, c.loop-made-test.true, ap length c.domains-domains.ensures.domains) in
    record {
      made = subst (λ i. AreTailsFrom c.args.diagram.now c.args.choices.now c.args.costs.now i c.push_tails.new.layers.items) ((ap (λ ds. length ds - 1 - c.loop-made.made) c.domains-domains.ensures.domains) ∙ (let z : length c.args.diagram.now.domains - 1 - c.loop-made.made ≡ length c.args.diagram.now.domains - (c.loop-made.made + 1) = omega arith in z)) c.in_ok-push_tails.ensures.made;
      steps = steps_backward c.args.diagram.now c.args.choices.now c.args.steps.now c.loop-made.steps c.push_tails.new.steps c.loop-made.made n lt c.loop-made.invariant.steps (subst (λ i. c.push_tails.new.steps ≤ c.loop-made.steps + slots_of c.args.diagram.now c.args.choices.now i) (ap (λ ds. length ds - 1 - c.loop-made.made) c.domains-domains.ensures.domains) c.push_tails.ensures.steps);
    }

pub returns-clause-tails : goal.returns-clause-tails
returns-clause-tails g c =
    let last : length c.args.diagram.now.domains - c.loop-made.made ≡ 0 = omega (arith, c.loop-made-test.false, c.loop-made.auto.made-end, ap length c.domains-domains.ensures.domains) in
    let made = subst (λ n. AreTailsFrom c.args.diagram.now c.args.choices.now c.args.costs.now n c.loop-made.layers.items) last c.loop-made.invariant.made in
    record { side = refl; layers = length-tails c.loop-made.layers.items ∙ (omega (arith, made.layers_made)); labelled = λ layer le. let z : 0 + layer ≡ layer = omega arith in subst (λ n. IsLabelled (drop n c.args.costs.now) (tails c.args.diagram.now c.args.choices.now n) (slice_index c.args.diagram.now.sizes n) (slice_index_or (kept_tails c.loop-made.layers.items) layer [])) z (made.labelled layer (omega (arith, le))) }
