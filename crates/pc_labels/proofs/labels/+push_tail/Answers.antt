use Rattle.std.proofs.Common.{◌+◌, ◌<◌, [], ◌∷◌, ◌++◌, length, sym, ap, ◌∙◌, subst, append-nil, append_assoc, arith}
use Rattle.std.specs.Prelude.{slice_index_or, IsSome}
use Rattle.pc_labels.specs.declared.step.Step.{Step}
use Rattle.pc_labels.specs.Growing.{marks_at}
use Rattle.pc_labels.specs.Kept.{kept_tails, path_at}
use Rattle.pc_labels.specs.Marks.{weight_at}
use Rattle.pc_labels.proofs.StepsBack.{tails_end, tails_lead, tails_path, step_read}
use Rattle.pc_labels.proofs.labels.+push_tail.Goals as goal

pub returns-then-layer-layers : goal.returns-then-layer-layers
returns-then-layer-layers t c = sym (ap (λ p. c.args.word.now ++ p) (tails_end c.args.layers.now c.args.layer c.args.node c.if-layer-layers.true) ∙ append-nil c.args.word.now)

pub push_tail-requires : goal.push_tail-requires
push_tail-requires t c =
    let layers = c.args.layers.now in
    let next : c.args.layer + 1 < length layers = omega (arith, c.if-layer-layers.false, c.requires.layer) in
    let step = step_read layers c.requires.layers.marked c.args.layer c.args.node c.index-layers-layer.result c.step-step.result c.requires.layer c.requires.node c.index-layers-layer.is c.step-step.ensures in (
      omega (arith, next, c.decreases),
      (
        c.requires.layers,
        (
          next,
          subst (λ (s : Step). IsSome (weight_at (marks_at layers (c.args.layer + 1)) s.node)) (sym step) (tails_lead layers c.requires.layers c.args.layer c.args.node next c.requires.node),
        ),
      ),
    )

pub returns : goal.returns
returns t c =
    let layers = c.args.layers.now in
    let next : c.args.layer + 1 < length layers = omega (arith, c.if-layer-layers.false, c.requires.layer) in
    let step = step_read layers c.requires.layers.marked c.args.layer c.args.node c.index-layers-layer.result c.step-step.result c.requires.layer c.requires.node c.index-layers-layer.is c.step-step.ensures in
    let after = slice_index_or (kept_tails layers) (c.args.layer + 1) [] in
    c.in_ok-push_tail.ensures ∙ ap (λ w. w ++ path_at after c.step-step.result.node) c.in_ok-push.ensures.ok ∙ append_assoc c.args.word.now (c.step-step.result.value ∷ []) (path_at after c.step-step.result.node)
    ∙ ap (λ (s : Step). c.args.word.now ++ s.value ∷ path_at after s.node) step
    ∙ ap (λ p. c.args.word.now ++ p) (sym (tails_path layers c.requires.layers c.args.layer c.args.node next c.requires.node))
