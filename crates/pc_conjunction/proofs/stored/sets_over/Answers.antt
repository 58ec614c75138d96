use Rattle.std.proofs.Common.{◌≡◌, ◌+◌, ◌∙◌, ℕ, List, All, false, sym, subst, true≢false}
use Rattle.pc_store.specs.declared.id.Id.{Id}
use Rattle.pc_store.specs.declared.store.Store.{Store}
use Rattle.pc_store.specs.Sets.{IsIdAt, Keeps, has, leads}
use Rattle.pc_store.proofs.SetLemmas.{keeps_same, keeps_then}
use Rattle.pc_apply.proofs.BuildLemmas.{ids_kept}
use Rattle.pc_conjunction.specs.Reached.{is_marked}
use Rattle.pc_conjunction.specs.Stores.{AreOver, goes_on}
use Rattle.pc_conjunction.proofs.StoredLemmas.{goes_all, id_kept, over_none, over_more}
use Rattle.pc_conjunction.proofs.stored.sets_over.Goals as goal
use Rattle.pc_conjunction.proofs.stored.sets_over.Goals.{then-is_reached+in_ok-pick+in_ok-node+in_ok-push, else-is_reached+in_ok-push-2}

pub loop-place-init : goal.loop-place-init
loop-place-init c = record {
  keeps = keeps_same c.args.store.now;
  over = subst (AreOver c.args.store.now c.args.store.now c.args.layer c.args.columns.now c.args.below.now c.args.marks.now 0) (sym {A = List Id} c.in_ok-sets.ensures) (over_none c.args.store.now c.args.layer c.args.columns.now c.args.below.now c.args.marks.now);
}

pub node-requires-clause-below : goal.node-requires-clause-below
node-requires-clause-below c =
    let known = goes_all c.args.store.now (c.args.layer + 1) c.args.count c.args.columns.now c.args.below.now c.loop-place.place c.requires.below c.requires.columns (let test = c.loop-place-test.true in test) in
    subst (All (IsIdAt c.loop-place.store (c.args.layer + 1))) (sym {A = List Id} (c.as_slice.ensures.value ∙ c.in_ok-pick.ensures))
    (ids_kept c.args.store.now c.loop-place.store (c.args.layer + 1) (goes_on c.args.columns.now c.args.below.now c.loop-place.place) c.loop-place.invariant.keeps known)

pub loop-place-preserved : goal.loop-place-preserved
loop-place-preserved c =
    let old = c.args.store.now in
    let mid = c.loop-place.store in
    let layer = c.args.layer in
    let columns = c.args.columns.now in
    let below = c.args.below.now in
    let marks = c.args.marks.now in
    let place = c.loop-place.place in
    let sets = c.if-is_reached.sets in
    let h = c.loop-place.invariant in
    let known = goes_all old (layer + 1) c.args.count columns below place c.requires.below c.requires.columns (let test = c.loop-place-test.true in test) in
    elim c.if-is_reached.branch [
      | then-is_reached+in_ok-pick+in_ok-node+in_ok-push w ↦
          let now = w.node.new.self in
          let id = w.in_ok-node.field-0 in
          let children : w.as_slice.result.now ≡ goes_on columns below place = w.as_slice.ensures.value ∙ w.in_ok-pick.ensures in
          let words : (word : List ℕ) → has now id word ≡ leads mid (goes_on columns below place) word =
          subst (λ (ids : List Id). (word : List ℕ) → has now id word ≡ leads mid ids word) children w.in_ok-node.ensures.set in
          let over = over_more old mid now layer columns below marks place c.loop-place.sets id h.keeps w.node.ensures.keeps known h.over w.in_ok-node.ensures.is_id (λ there. words) in
          record {
            keeps = subst (Keeps old) (sym w.store-is) (keeps_then old mid now h.keeps w.node.ensures.keeps);
            over = subst (λ (store : Store). AreOver old store layer columns below marks (place + 1) sets) (sym w.store-is)
                (subst (AreOver old now layer columns below marks (place + 1)) (sym {A = List Id} (w.sets-is ∙ w.in_ok-push.ensures.ok)) over);
          }
      | else-is_reached+in_ok-push-2 w ↦
          let empty = c.empty-empty.result in
          let unmarked : is_marked marks place ≡ false = sym c.is_reached.ensures ∙ w.if-is_reached.false in
          let over = over_more old mid mid layer columns below marks place c.loop-place.sets empty h.keeps (keeps_same mid) known h.over (id_kept old mid layer empty h.keeps c.empty-empty.ensures.is_id) (λ there. absurd (true≢false (sym there ∙ unmarked))) in
          record {
            keeps = subst (Keeps old) (sym w.store-is) h.keeps;
            over = subst (λ (store : Store). AreOver old store layer columns below marks (place + 1) sets) (sym w.store-is)
                (subst (AreOver old mid layer columns below marks (place + 1)) (sym {A = List Id} (w.sets-is ∙ w.in_ok-push-2.ensures.ok)) over);
          }
    ]
