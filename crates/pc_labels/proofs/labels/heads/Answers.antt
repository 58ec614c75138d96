use Rattle.std.proofs.Common.{◌≡◌, [], ◌∷◌, ◌++◌, length, refl, sym, ap, ◌∙◌, subst, arith}
use Rattle.pc_labels.specs.Growing.{AreHeadsUpTo}
use Rattle.pc_labels.proofs.CountLemmas.{steps_forward}
use Rattle.pc_labels.proofs.GrowLemmas.{heads-begin}
use Rattle.pc_labels.proofs.KeptLemmas.{length-heads}
use Rattle.pc_labels.proofs.labels.heads.Goals as goal

pub loop-variable-init : goal.loop-variable-init
loop-variable-init g c = record {
  made = subst (AreHeadsUpTo c.args.diagram.now c.args.choices.now c.args.costs.now 0) (sym (c.in_ok-push.ensures.items ∙ ap (λ ls. ls ++ c.in_ok-start.field-0 ∷ []) c.in_ok-layers.ensures.items))
      (heads-begin c.args.diagram.now c.domains-domains.ensures.canonical c.args.choices.now c.args.costs.now c.requires.costs _ c.in_ok-start.ensures.weights c.in_ok-start.ensures.marks);
  steps = omega arith;
}

pub returns-in_err-push_heads-clause-steps : goal.returns-in_err-push_heads-clause-steps
returns-in_err-push_heads-clause-steps g c =
    (steps_forward c.args.diagram.now c.args.choices.now c.args.steps.now c.loop-variable.steps c.push_heads.new.steps c.loop-variable.variable (length c.args.diagram.now.domains)
    (omega (arith, c.loop-variable-test.true, ap length c.domains-domains.ensures.domains)) c.loop-variable.invariant.steps c.push_heads.ensures.steps).1

pub loop-variable-preserved : goal.loop-variable-preserved
loop-variable-preserved g c = record {
  made = c.in_ok-push_heads.ensures.made;
  steps = (steps_forward c.args.diagram.now c.args.choices.now c.args.steps.now c.loop-variable.steps c.push_heads.new.steps c.loop-variable.variable (length c.args.diagram.now.domains)
      (omega (arith, c.loop-variable-test.true, ap length c.domains-domains.ensures.domains)) c.loop-variable.invariant.steps c.push_heads.ensures.steps).0;
}

pub returns-clause-heads : goal.returns-clause-heads
returns-clause-heads g c =
    let last : c.loop-variable.variable ≡ length c.args.diagram.now.domains = omega (arith, c.loop-variable-test.false, c.loop-variable.auto.variable-end, ap length c.domains-domains.ensures.domains) in
    let made = subst (λ n. AreHeadsUpTo c.args.diagram.now c.args.choices.now c.args.costs.now n c.loop-variable.layers.items) last c.loop-variable.invariant.made in
    record { side = refl; layers = length-heads c.loop-variable.layers.items ∙ made.layers_made; labelled = made.labelled }
