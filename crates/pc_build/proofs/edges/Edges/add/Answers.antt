use Rattle.std.proofs.Common.{◌≡◌, ◌++◌, [], ◌∷◌, List, ℕ, Option, Some, sym, subst, ap, ◌∙◌}
use Rattle.std.proofs.lemmas.Bool.{both_ways}
use Rattle.pc_store.specs.Sets.{has}
use Rattle.pc_build.specs.Extracts.{IsEmpty, AreEdges}
use Rattle.pc_build.proofs.EdgeLemmas.{edges_empty, edges_more}
use Rattle.pc_build.proofs.edges.Edges.add.Goals as goal

pub returns-in_ok-push : goal.returns-in_ok-push
returns-in_ok-push c = λ before h.
    let is : IsEmpty c.args.store.now c.args.layer c.args.child = λ word.
    ap (λ id. has c.args.store.now id word) (sym c.at.ensures.id) ∙ c.same_set.ensures.0 c.if-same_set.true word ∙ c.empty.ensures.set word in
    subst (AreEdges c.args.store.now c.args.layer (before ++ c.args.child ∷ []) c.args.self.now.nodes.keys) (sym {A = List (Option ℕ)} c.in_ok-push.ensures.ok)
    (edges_empty c.args.store.now c.args.layer before c.args.self.now.nodes.keys c.args.self.now.edges c.args.child is h)

pub returns-in_ok-push-2 : goal.returns-in_ok-push-2
returns-in_ok-push-2 c = λ before h.
    let other : IsEmpty c.args.store.now c.args.layer c.args.child → ⊥ = λ is.
    both_ways c.same_set.result c.if-same_set.false (c.same_set.ensures.1 (λ word. ap (λ id. has c.args.store.now id word) c.at.ensures.id ∙ is word ∙ sym (c.empty.ensures.set word))) in
    let stored = c.in_ok-place.ensures.stored in
    let more = edges_more c.args.store.now c.args.layer before c.args.self.now.nodes.keys c.insert_full.new.self.keys c.args.self.now.edges c.args.child stored.0 c.in_ok-place.place other c.in_ok-place.ensures.keys stored.1 stored.2 h in
    let edges : c.push-else-same_set.new.self ≡ c.args.self.now.edges ++ Some c.in_ok-place.place ∷ [] = c.in_ok-push-2.ensures.ok ∙ ap (λ n. c.args.self.now.edges ++ Some n ∷ []) c.in_ok-number.ensures in
    subst (AreEdges c.args.store.now c.args.layer (before ++ c.args.child ∷ []) c.insert_full.new.self.keys) (sym {A = List (Option ℕ)} edges) more
