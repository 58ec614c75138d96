use Rattle.std.proofs.Common.{◌≡◌, ◌+◌, ◌∙◌, [], ◌∷◌, ℕ, List, Bool, Ok, Err, IfOk, Result, length, reverse, refl, sym, ap, subst, arith}
use Rattle.std.proofs.lemmas.List.{length_push}
use Rattle.pc_base.specs.declared.memory.NoMemory.{NoMemory}
use Rattle.pc_store.specs.declared.id.Id.{Id}
use Rattle.pc_conjunction.specs.declared.layer.Layer.{Layer}
use Rattle.pc_conjunction.specs.Places.{place_count}
use Rattle.pc_conjunction.specs.Meets.{IsBelow}
use Rattle.pc_conjunction.specs.Reached.{AreReached}
use Rattle.pc_conjunction.specs.Stores.{ArePlaces, AreOver}
use Rattle.pc_conjunction.proofs.NarrowLemmas.{reverse_push, rest_below}
use Rattle.pc_conjunction.proofs.StoredLemmas.{places_over}
use Rattle.pc_conjunction.proofs.stored.+sets_of_places.Goals as goal

pub sets_of_places-requires : goal.sets_of_places-requires
sets_of_places-requires t c =
    let store = c.args.store.now in
    let rest : List Layer = c.in-Some.below.now in
    let first : Layer = c.in-Some.first.now in
    let e : reverse c.args.layers.now ≡ first ∷ reverse rest = ap {A = List Layer} reverse c.in-Some.ensures.cases.0 ∙ reverse_push rest first in
    let below : IsBelow store c.args.layer first.count (first ∷ reverse rest) = subst (λ (ls : List Layer). IsBelow store c.args.layer (place_count ls) ls) e c.requires.below in
    let len : length c.args.layers.now ≡ length rest + 1 = ap {A = List Layer} length c.in-Some.ensures.cases.0 ∙ length_push rest first in
    let falls = c.decreases in
    let layer = c.requires.layer in
    let few = c.requires.few in
    (omega arith, (omega arith, (few, rest_below store c.args.layer first.count first (reverse rest) below)))

pub returns-in-None-clause-sets : goal.returns-in-None-clause-sets
returns-in-None-clause-sets t c =
    by c.sets_past_the_last.result c.sets_past_the_last.ensures
  where
    none : (layers : List Layer) → length layers ≡ 0 → reverse layers ≡ []
    none [] e = refl
    none (layer ∷ layers) e = absurd (omega arith)

    by : (r : Result (List Id) NoMemory) → IfOk r (λ sets. (marks : List Bool) → ArePlaces c.args.store.now c.args.layer [] marks sets) → IfOk r (ArePlaces c.args.store.now c.args.layer (reverse c.args.layers.now) c.args.marks.now)
    by (Err e) h = tt
    by (Ok sets) h = subst (λ (ls : List Layer). ArePlaces c.args.store.now c.args.layer ls c.args.marks.now sets) (sym (none c.args.layers.now c.in-None.ensures.cases)) (h c.args.marks.now)

pub returns-in_ok-over-in-Some-clause-sets : goal.returns-in_ok-over-in-Some-clause-sets
returns-in_ok-over-in-Some-clause-sets t c =
    let mid = c.sets_of_places.new.store in
    let now = c.sets_over.new.store in
    let layer = c.args.layer in
    let marks = c.args.marks.now in
    let rest : List Layer = c.in-Some.below.now in
    let first : Layer = c.in-Some.first.now in
    let reached : List Bool = c.in_ok-reached-in-Some.reached.items in
    let sets = c.in_ok-sets-in-Some.sets in
    let e : reverse c.args.layers.now ≡ first ∷ reverse rest = ap {A = List Layer} reverse c.in-Some.ensures.cases.0 ∙ reverse_push rest first in
    let below : IsBelow c.args.store.now layer first.count (first ∷ reverse rest) = subst (λ (ls : List Layer). IsBelow c.args.store.now layer (place_count ls) ls) e c.requires.below in
    let over : AreOver mid now layer first.columns.items sets marks first.count c.in_ok-over-in-Some.over =
    subst (λ (columns : List (List ℕ)). AreOver mid now layer columns sets marks first.count c.in_ok-over-in-Some.over) c.as_slice-columns.ensures.value
    (subst (λ (ids : List Id). AreOver mid now layer c.as_slice-columns.result.now ids marks first.count c.in_ok-over-in-Some.over) c.as_slice-in-Some.ensures c.in_ok-over-in-Some.ensures.sets) in
    let found : AreReached marks first.columns.items (place_count (reverse rest)) reached =
    subst (λ (columns : List (List ℕ)). AreReached marks columns (place_count (reverse rest)) reached) c.as_slice-columns.ensures.value
    (subst (λ n. AreReached marks c.as_slice-columns.result.now n reached) c.count_of.ensures c.in_ok-reached-in-Some.ensures) in
    let places : ArePlaces mid (layer + 1) (reverse rest) reached sets = subst (λ (ms : List Bool). ArePlaces mid (layer + 1) (reverse rest) ms sets) c.as_slice.ensures.value c.in_ok-sets-in-Some.ensures.sets in
    subst (λ (ls : List Layer). ArePlaces now layer ls marks c.in_ok-over-in-Some.over) (sym e) (places_over mid now layer first (reverse rest) marks reached sets c.in_ok-over-in-Some.over below.layered found places over)
