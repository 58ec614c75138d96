use Rattle.std.proofs.Common.{◌≡◌, ◌+◌, ◌-◌, ◌≤◌, List, take, length, refl, sym, ap, ◌∙◌, subst, arith}
use Rattle.std.proofs.lemmas.List.{length-take-le}
use Rattle.pc_labels.specs.Growing.{AreHeadsUpTo}
use Rattle.pc_labels.specs.Labels.{slot_count}
use Rattle.pc_labels.specs.Marks.{Marks}
use Rattle.pc_labels.proofs.AgainLemmas.{heads_shared, layers_held}
use Rattle.pc_labels.proofs.CountLemmas.{steps_onward}
use Rattle.pc_labels.proofs.KeptLemmas.{length-heads}
use Rattle.pc_labels.proofs.labels.Labels.heads_again.Goals as goal

pub slice_bounds-all_shared-end : goal.slice_bounds-all_shared-end
slice_bounds-all_shared-end g c =
    let held = layers_held (length c.args.diagram.now.domains) c.self.inside.side c.self.inside.layers.items c.args.self.now c.self.view_is c.requires.before.made.layers in
    sym (length-take-le _ c.as_slice.result.now (omega (arith, c.requires.variable, held, ap (λ (ls : List Marks). length ls) c.as_slice.ensures.value)))

pub loop-next-init : goal.loop-next-init
loop-next-init g c =
    record {
      made = subst (AreHeadsUpTo c.args.diagram.now c.args.choices.now c.args.costs.now c.args.variable) (sym (c.in_ok-layers.ensures ∙ ap (take (c.args.variable + 1)) c.as_slice.ensures.value))
          (heads_shared c.args.diagram.now c.args.choices.now c.args.costs.now c.args.variable c.self.inside.side c.self.inside.layers.items c.args.self.now c.self.view_is c.requires.variable c.self.invariant c.requires.before);
      steps = omega arith;
    }

pub returns-in_err-push_heads-clause-steps : goal.returns-in_err-push_heads-clause-steps
returns-in_err-push_heads-clause-steps g c =
    (steps_onward c.args.diagram.now c.args.choices.now c.args.steps.now c.loop-next.steps c.push_heads.new.steps c.args.variable c.loop-next.next (length c.args.diagram.now.domains)
    c.loop-next.auto.next (omega (arith, c.loop-next-test.true, ap length c.domains-domains.ensures.domains)) c.loop-next.invariant.steps c.push_heads.ensures.steps).1

pub loop-next-preserved : goal.loop-next-preserved
loop-next-preserved g c = record {
  made = c.in_ok-push_heads.ensures.made;
  steps = (steps_onward c.args.diagram.now c.args.choices.now c.args.steps.now c.loop-next.steps c.push_heads.new.steps c.args.variable c.loop-next.next (length c.args.diagram.now.domains)
      c.loop-next.auto.next (omega (arith, c.loop-next-test.true, ap length c.domains-domains.ensures.domains)) c.loop-next.invariant.steps c.push_heads.ensures.steps).0;
}

pub returns-clause-heads : goal.returns-clause-heads
returns-clause-heads g c =
    let last : c.loop-next.next ≡ length c.args.diagram.now.domains = omega (arith, c.requires.variable, c.loop-next-test.false, c.loop-next.auto.next-end, ap length c.domains-domains.ensures.domains) in
    let made = subst (λ n. AreHeadsUpTo c.args.diagram.now c.args.choices.now c.args.costs.now n c.loop-next.layers.items) last c.loop-next.invariant.made in
    record { side = refl; layers = length-heads c.loop-next.layers.items ∙ made.layers_made; labelled = made.labelled }

pub returns-clause-steps : goal.returns-clause-steps
returns-clause-steps g c =
    let last : c.loop-next.next ≡ length c.args.diagram.now.domains = omega (arith, c.requires.variable, c.loop-next-test.false, c.loop-next.auto.next-end, ap length c.domains-domains.ensures.domains) in
    subst (λ n. c.loop-next.steps ≤ c.args.steps.now + slot_count c.args.diagram.now c.args.choices.now c.args.variable (n - c.args.variable)) last c.loop-next.invariant.steps

pub invariant_of-result : goal.invariant_of-result
invariant_of-result g c = record { marked = c.loop-next.invariant.made.marked; joined = c.loop-next.invariant.made.joined }

pub push_heads-requires-clause-made : goal.push_heads-requires-clause-made
push_heads-requires-clause-made g c = c.loop-next.invariant.made
