use Rattle.std.proofs.Common.{◌≡◌, ◌+◌, ◌-◌, ◌≤◌, List, [], drop, length, refl, sym, ap, ◌∙◌, subst, length-drop, arith}
use Rattle.std.specs.Prelude.{slice_index, slice_index_or}
use Rattle.std.proofs.lemmas.List.{take_all}
use Rattle.pc_diagram.specs.NodePaths.{tails}
use Rattle.pc_labels.specs.Growing.{AreTailsFrom}
use Rattle.pc_labels.specs.Kept.{kept_tails}
use Rattle.pc_labels.specs.Labels.{IsLabelled, slot_count, slots_of}
use Rattle.pc_labels.specs.Marks.{Marks}
use Rattle.pc_labels.proofs.AgainLemmas.{tails_shared, layers_held}
use Rattle.pc_labels.proofs.CountLemmas.{steps_homeward}
use Rattle.pc_labels.proofs.KeptLemmas.{length-tails}
use Rattle.pc_labels.proofs.labels.Labels.tails_again.Goals as goal

pub slice_bounds-all_shared-count : goal.slice_bounds-all_shared-count
slice_bounds-all_shared-count g c =
    let held = layers_held (length c.args.diagram.now.domains) c.self.inside.side c.self.inside.layers.items c.args.self.now c.self.view_is c.requires.before.made.layers in
    omega (arith, c.requires.variable, held, ap (λ (ls : List Marks). length ls) c.as_slice.ensures.value)

pub slice_bounds-all_shared-start : goal.slice_bounds-all_shared-start
slice_bounds-all_shared-start g c =
    let held = layers_held (length c.args.diagram.now.domains) c.self.inside.side c.self.inside.layers.items c.args.self.now c.self.view_is c.requires.before.made.layers in
    let long : length c.as_slice.result.now ≡ length c.args.diagram.now.domains + 1 = ap (λ (ls : List Marks). length ls) c.as_slice.ensures.value ∙ held in
    let within : c.args.variable + 1 ≤ length c.as_slice.result.now = omega (arith, c.requires.variable, long) in
    within

pub loop-made-init : goal.loop-made-init
loop-made-init g c =
    let n = length c.args.diagram.now.domains in
    let long = ap length c.domains-domains.ensures.domains in
    let from : c.args.variable + 1 ≡ length c.args.diagram.now.domains - (length c.domains-domains.result.now - 1 - c.args.variable) = omega (arith, c.requires.variable, long) in
    record {
      made = subst (λ ls. AreTailsFrom c.args.diagram.now c.args.choices.now c.args.costs.now (n - (length c.domains-domains.result.now - 1 - c.args.variable)) ls) (sym (c.in_ok-layers.ensures ∙ take_all (length c.as_slice.result.now - (c.args.variable + 1)) (drop (c.args.variable + 1) c.as_slice.result.now) (omega (arith, length-drop (c.args.variable + 1) c.as_slice.result.now)) ∙ ap (drop (c.args.variable + 1)) c.as_slice.ensures.value))
          (subst (λ i. AreTailsFrom c.args.diagram.now c.args.choices.now c.args.costs.now i (drop (c.args.variable + 1) c.self.inside.layers.items)) from
          (tails_shared c.args.diagram.now c.args.choices.now c.args.costs.now c.args.variable c.self.inside.side c.self.inside.layers.items c.args.self.now c.self.view_is c.requires.variable c.self.invariant c.requires.before));
      steps = omega arith;
    }

pub returns-in_err-push_tails-clause-steps : goal.returns-in_err-push_tails-clause-steps
returns-in_err-push_tails-clause-steps g c =
    let long = ap length c.domains-domains.ensures.domains in
    (steps_homeward c.args.diagram.now c.args.choices.now c.args.steps.now c.loop-made.steps c.push_tails.new.steps c.args.variable c.loop-made.made (length c.args.diagram.now.domains)
    c.requires.variable (omega (arith, c.loop-made.auto.made, long)) (omega (arith, c.loop-made-test.true, long)) c.loop-made.invariant.steps
    (subst (λ i. c.push_tails.new.steps ≤ c.loop-made.steps + slots_of c.args.diagram.now c.args.choices.now i) (ap (λ ds. length ds - 1 - c.loop-made.made) c.domains-domains.ensures.domains) c.push_tails.ensures.steps)).1

pub loop-made-preserved : goal.loop-made-preserved
loop-made-preserved g c =
    let long = ap length c.domains-domains.ensures.domains in
    record {
      made = subst (λ i. AreTailsFrom c.args.diagram.now c.args.choices.now c.args.costs.now i c.push_tails.new.layers.items) ((ap (λ ds. length ds - 1 - c.loop-made.made) c.domains-domains.ensures.domains) ∙ (let z : length c.args.diagram.now.domains - 1 - c.loop-made.made ≡ length c.args.diagram.now.domains - (c.loop-made.made + 1) = omega arith in z)) c.in_ok-push_tails.ensures.made;
      steps = (steps_homeward c.args.diagram.now c.args.choices.now c.args.steps.now c.loop-made.steps c.push_tails.new.steps c.args.variable c.loop-made.made (length c.args.diagram.now.domains)
          c.requires.variable (omega (arith, c.loop-made.auto.made, long)) (omega (arith, c.loop-made-test.true, long)) c.loop-made.invariant.steps
          (subst (λ i. c.push_tails.new.steps ≤ c.loop-made.steps + slots_of c.args.diagram.now c.args.choices.now i) (ap (λ ds. length ds - 1 - c.loop-made.made) c.domains-domains.ensures.domains) c.push_tails.ensures.steps)).0;
    }

pub returns-clause-tails : goal.returns-clause-tails
returns-clause-tails g c =
    let last : length c.args.diagram.now.domains - c.loop-made.made ≡ 0 = omega (arith, c.loop-made-test.false, c.loop-made.auto.made-end, ap length c.domains-domains.ensures.domains) in
    let made = subst (λ n. AreTailsFrom c.args.diagram.now c.args.choices.now c.args.costs.now n c.loop-made.layers.items) last c.loop-made.invariant.made in
    record { side = refl; layers = length-tails c.loop-made.layers.items ∙ (omega (arith, made.layers_made)); labelled = λ layer le. let z : 0 + layer ≡ layer = omega arith in subst (λ n. IsLabelled (drop n c.args.costs.now) (tails c.args.diagram.now c.args.choices.now n) (slice_index c.args.diagram.now.sizes n) (slice_index_or (kept_tails c.loop-made.layers.items) layer [])) z (made.labelled layer (omega (arith, le))) }

pub returns-clause-steps : goal.returns-clause-steps
returns-clause-steps g c =
    let long = ap length c.domains-domains.ensures.domains in
    let last : length c.args.diagram.now.domains - c.loop-made.made ≡ 0 = omega (arith, c.loop-made-test.false, long) in
    let count : c.loop-made.made - (length c.args.diagram.now.domains - 1 - c.args.variable) ≡ c.args.variable + 1 = omega (arith, c.requires.variable, c.loop-made-test.false, c.loop-made.auto.made-end, long) in
    subst (λ n. c.loop-made.steps ≤ c.args.steps.now + slot_count c.args.diagram.now c.args.choices.now 0 n) count
    (subst (λ first. c.loop-made.steps ≤ c.args.steps.now + slot_count c.args.diagram.now c.args.choices.now first (c.loop-made.made - (length c.args.diagram.now.domains - 1 - c.args.variable))) last c.loop-made.invariant.steps)

pub invariant_of-result : goal.invariant_of-result
invariant_of-result g c = record { marked = c.loop-made.invariant.made.marked; joined = c.loop-made.invariant.made.joined }
