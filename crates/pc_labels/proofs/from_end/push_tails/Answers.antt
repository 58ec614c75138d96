use Rattle.std.proofs.Common.{◌≡◌, [], ◌∷◌, length, sym, ap, ◌∙◌, subst, arith}
use Rattle.std.specs.Prelude.{slice_index_or}
use Rattle.std.proofs.lemmas.List.{get_or_default}
use Rattle.pc_diagram.specs.Choices.{value_of}
use Rattle.pc_diagram.specs.Levels.{level}
use Rattle.pc_labels.specs.Growing.{marks_at, AreTailsFrom}
use Rattle.pc_labels.specs.Marks.{Marks, AreMarks}
use Rattle.pc_labels.specs.Slots.{HasRoom}
use Rattle.pc_labels.specs.SoFar.{AreNextTailsOf}
use Rattle.pc_labels.proofs.GrowLemmas.{tails-grow, tails-room, tails-nodes}
use Rattle.pc_labels.proofs.from_end.push_tails.Goals as goal

pub next_tails-requires-clause-nodes : goal.next_tails-requires-clause-nodes
next_tails-requires-clause-nodes g c =
    let is : c.layer.result.now ≡ marks_at c.args.layers.now.items 0 = c.layer.ensures ∙ c.index.ensures ∙ get_or_default c.args.layers.now.items 0 c.index.result.now _ (omega (arith, c.requires.made.layers_made, c.requires.variable)) in
    ap (λ (m : Marks). length m.weights) is ∙ tails-nodes c.args.diagram.now c.requires.canonical c.args.choices.now c.args.costs.now c.requires.costs c.args.variable c.args.layers.now.items c.requires.variable c.requires.made

pub next_tails-requires-clause-room : goal.next_tails-requires-clause-room
next_tails-requires-clause-room g c =
    let is : c.layer.result.now ≡ marks_at c.args.layers.now.items 0 = c.layer.ensures ∙ c.index.ensures ∙ get_or_default c.args.layers.now.items 0 c.index.result.now _ (omega (arith, c.requires.made.layers_made, c.requires.variable)) in
    subst (λ (m : Marks). HasRoom m.weights (slice_index_or c.args.costs.now c.args.variable [])) (sym is) (tails-room c.args.diagram.now c.requires.canonical c.args.choices.now c.args.costs.now c.requires.costs c.args.variable c.args.layers.now.items c.requires.variable c.requires.made)

pub returns-clause-made : goal.returns-clause-made
returns-clause-made g c =
    let is : c.layer.result.now ≡ marks_at c.args.layers.now.items 0 = c.layer.ensures ∙ c.index.ensures ∙ get_or_default c.args.layers.now.items 0 c.index.result.now _ (omega (arith, c.requires.made.layers_made, c.requires.variable)) in
    let marks : AreMarks c.in_ok-next.next = c.in_ok-next.ensures.marks in
    subst (AreTailsFrom c.args.diagram.now c.args.choices.now c.args.costs.now c.args.variable) (sym (c.in_ok-insert.ensures.items ∙ ap (λ m. m ∷ c.args.layers.now.items) c.in_ok-new.ensures))
    (tails-grow c.args.diagram.now c.requires.canonical c.args.choices.now c.args.costs.now c.requires.costs c.args.variable c.args.layers.now.items c.in_ok-next.next c.requires.variable c.requires.made marks
    (subst (λ (m : Marks). AreNextTailsOf (level c.args.diagram.now c.args.variable) (value_of c.args.choices.now c.args.variable) (slice_index_or c.args.costs.now c.args.variable []) m c.in_ok-next.next) is c.in_ok-next.ensures.next))
