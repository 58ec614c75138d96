use Rattle.std.proofs.Common.{◌≡◌, ◌+◌, ◌<◌, ◌++◌, [], ◌∷◌, List, length, take, sym, ap, ◌∙◌, subst, arith, append_assoc}
use Rattle.std.proofs.lemmas.List.{take_more}
use Rattle.std.proofs.lemmas.Option.{get_or_from_slice_get}
use Rattle.pc_store.specs.declared.id.Node.{Node}
use Rattle.pc_build.specs.Extracts.{AreEdges}
use Rattle.pc_build.proofs.edges.Edges.add_all.Goals as goal

pub loop-value-preserved : goal.loop-value-preserved
loop-value-preserved c = λ before h.
    let children : List Node = c.args.children.now in
    let i = c.loop-value.value in
    let low = c.loop-value-test.true in
    let high = c.loop-value.auto.value-end in
    let width = c.requires.count in
    let inside : i < length children = omega arith in
    let first : take (i + 1) children ≡ take i children ++ c.node.result ∷ [] = take_more children i c.node.result inside ∙ ap (λ (n : Node). take i children ++ n ∷ []) (get_or_from_slice_get children i c.node.result c.node.result c.node.ensures) in
    let whole : (before ++ take i children) ++ c.node.result ∷ [] ≡ before ++ take (i + 1) children = append_assoc before (take i children) (c.node.result ∷ []) ∙ ap (λ l. before ++ l) (sym first) in
    subst (λ l. AreEdges c.args.store.now c.args.layer l c.add.new.self.nodes.keys c.add.new.self.edges) whole (c.in_ok-add.ensures (before ++ take i children) (c.loop-value.invariant before h))

pub add-requires-clause-child : goal.add-requires-clause-child
add-requires-clause-child c = c.requires.nodes c.loop-value.value c.node.result c.node.ensures
