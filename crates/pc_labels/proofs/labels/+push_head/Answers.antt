use Rattle.std.proofs.Common.{◌-◌, ◌<◌, [], ◌∷◌, ◌++◌, sym, ap, ◌∙◌, subst, append-nil, append_assoc, arith}
use Rattle.std.specs.Prelude.{slice_index_or, IsSome}
use Rattle.pc_labels.specs.declared.step.Step.{Step}
use Rattle.pc_labels.specs.Growing.{marks_at}
use Rattle.pc_labels.specs.Kept.{kept_heads, path_at}
use Rattle.pc_labels.specs.Marks.{weight_at}
use Rattle.pc_labels.proofs.StepsBack.{heads_begin, heads_lead, heads_path, step_read}
use Rattle.pc_labels.proofs.labels.+push_head.Goals as goal

pub returns-then-layer-eq0 : goal.returns-then-layer-eq0
returns-then-layer-eq0 t c = sym (ap (λ p. c.args.word.now ++ p) (heads_begin c.args.layers.now c.args.layer c.args.node c.if-layer-eq0.true) ∙ append-nil c.args.word.now)

pub push_head-requires : goal.push_head-requires
push_head-requires t c =
    let layers = c.args.layers.now in
    let far : 0 < c.args.layer = omega (arith, c.if-layer-eq0.false) in
    let step = step_read layers c.requires.layers.marked c.args.layer c.args.node c.index-layers-layer.result c.step-step.result c.requires.layer c.requires.node c.index-layers-layer.is c.step-step.ensures in (
      omega (arith, far, c.decreases),
      (
        c.requires.layers,
        (
          omega (arith, c.requires.layer),
          subst (λ (s : Step). IsSome (weight_at (marks_at layers (c.args.layer - 1)) s.node)) (sym step) (heads_lead layers c.requires.layers c.args.layer c.args.node c.requires.layer far c.requires.node),
        ),
      ),
    )

pub returns : goal.returns
returns t c =
    let layers = c.args.layers.now in
    let far : 0 < c.args.layer = omega (arith, c.if-layer-eq0.false) in
    let step = step_read layers c.requires.layers.marked c.args.layer c.args.node c.index-layers-layer.result c.step-step.result c.requires.layer c.requires.node c.index-layers-layer.is c.step-step.ensures in
    let before = slice_index_or (kept_heads layers) (c.args.layer - 1) [] in
    c.in_ok-push.ensures.ok ∙ ap (λ w. w ++ c.step-step.result.value ∷ []) c.in_ok-push_head.ensures ∙ append_assoc c.args.word.now (path_at before c.step-step.result.node) (c.step-step.result.value ∷ [])
    ∙ ap (λ (s : Step). c.args.word.now ++ (path_at before s.node ++ s.value ∷ [])) step
    ∙ ap (λ p. c.args.word.now ++ p) (sym (heads_path layers c.requires.layers c.args.layer c.args.node c.requires.layer far c.requires.node))
