use Rattle.std.proofs.Common.{◌≡◌, ◌+◌, [], ◌∷◌, ◌++◌, length, sym, ap, ◌∙◌, subst, arith}
use Rattle.std.specs.Prelude.{slice_index_or}
use Rattle.std.proofs.lemmas.List.{get_or_default}
use Rattle.pc_diagram.specs.Choices.{value_of}
use Rattle.pc_diagram.specs.Levels.{level}
use Rattle.pc_labels.specs.Growing.{marks_at, AreHeadsUpTo}
use Rattle.pc_labels.specs.Marks.{Marks, AreMarks}
use Rattle.pc_labels.specs.Slots.{HasRoom}
use Rattle.pc_labels.specs.SoFar.{AreNextHeadsOf}
use Rattle.pc_labels.proofs.GrowLemmas.{heads-grow, heads-room, heads-nodes}
use Rattle.pc_labels.proofs.from_root.push_heads.Goals as goal

pub next_heads-requires-clause-nodes : goal.next_heads-requires-clause-nodes
next_heads-requires-clause-nodes g c =
    let is : c.layer.result.now ≡ marks_at c.args.layers.now.items c.args.variable = c.layer.ensures ∙ c.index.ensures ∙ get_or_default c.args.layers.now.items c.args.variable c.index.result.now _ (omega (arith, c.requires.made.layers_made)) in
    ap (λ (m : Marks). length m.weights) is ∙ heads-nodes c.args.diagram.now c.requires.canonical c.args.choices.now c.args.costs.now c.requires.costs c.args.variable c.args.layers.now.items c.requires.made

pub next_heads-requires-clause-room : goal.next_heads-requires-clause-room
next_heads-requires-clause-room g c =
    let is : c.layer.result.now ≡ marks_at c.args.layers.now.items c.args.variable = c.layer.ensures ∙ c.index.ensures ∙ get_or_default c.args.layers.now.items c.args.variable c.index.result.now _ (omega (arith, c.requires.made.layers_made)) in
    subst (λ (m : Marks). HasRoom m.weights (slice_index_or c.args.costs.now c.args.variable [])) (sym is) (heads-room c.args.diagram.now c.requires.canonical c.args.choices.now c.args.costs.now c.requires.costs c.args.variable c.args.layers.now.items c.requires.variable c.requires.made)

pub returns-clause-made : goal.returns-clause-made
returns-clause-made g c =
    let is : c.layer.result.now ≡ marks_at c.args.layers.now.items c.args.variable = c.layer.ensures ∙ c.index.ensures ∙ get_or_default c.args.layers.now.items c.args.variable c.index.result.now _ (omega (arith, c.requires.made.layers_made)) in
    let marks : AreMarks c.in_ok-next.next = c.in_ok-next.ensures.marks in
    subst (AreHeadsUpTo c.args.diagram.now c.args.choices.now c.args.costs.now (c.args.variable + 1)) (sym (c.in_ok-push.ensures.items ∙ ap (λ m. c.args.layers.now.items ++ m ∷ []) c.in_ok-new.ensures))
    (heads-grow c.args.diagram.now c.requires.canonical c.args.choices.now c.args.costs.now c.requires.costs c.args.variable c.args.layers.now.items c.in_ok-next.next c.requires.variable c.requires.made marks
    (subst (λ (m : Marks). AreNextHeadsOf (level c.args.diagram.now c.args.variable) (value_of c.args.choices.now c.args.variable) (slice_index_or c.args.costs.now c.args.variable []) m c.in_ok-next.next) is c.in_ok-next.ensures.next))
