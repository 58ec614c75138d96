use Rattle.std.proofs.Common.{◌≡◌, ◌<◌, ◌+◌, ◌∙◌, ℕ, Bool, List, ◌∷◌, [], refl, subst, arith, length, get_or}
use Rattle.std.proofs.lemmas.Grind.{common_steps}
use Rattle.std.proofs.lemmas.List.{get_or_default}
use Rattle.pc_store.specs.Sets.{has, id_at, IsIdAt}
use Rattle.pc_conjunction.specs.Meets.{CutColumn}
use Rattle.pc_conjunction.proofs.TargetLemmas.{child_node}
use Rattle.pc_conjunction.proofs.LayerLemmas.{changing_none, changing_more, cut_later, cut_same}
use Rattle.pc_conjunction.proofs.layer.Layer.cut.Goals as goal

pub loop-value-init : goal.loop-value-init
loop-value-init c = record {
  count = refl;
  changing = changing_none c.args.store.now c.args.layer c.args.count (λ layers value next old new. CutColumn c.args.store.now (c.args.layer + 1) layers (λ word. has c.args.store.now c.args.set (value ∷ word)) next old new) c.args.next.now.keys c.args.self.now.columns.items;
}

pub overflow_add-layer : goal.overflow_add-layer
overflow_add-layer c = let inner = c.requires.inner in let few = c.requires.few in grind (arith, common_steps)

pub loop-value-preserved : goal.loop-value-preserved
loop-value-preserved c =
    let store = c.args.store.now in
    let value = c.loop-value.value in
    let h = c.loop-value.invariant.changing in
    let inside : value < length c.args.self.now.columns.items = (let test = c.loop-value-test.true in let domain = c.domain-value-end.ensures.domain in let width = c.requires.width in omega arith) in
    let lt : value < length c.loop-value.self.columns.items = (let w = h.width in omega arith) in
    let old : List ℕ = get_or c.args.self.now.columns.items value [] in
    let read : c.as_slice-column.result.now ≡ old = c.as_slice-column.ensures ∙ c.index.ensures ∙ get_or_default c.loop-value.self.columns.items value c.index.result.now [] lt ∙ h.kept value (omega arith) in
    let is : IsIdAt store (c.args.layer + 1) c.child.result = subst (λ l. IsIdAt store (l + 1) c.child.result) c.requires.set.1 c.child.ensures.is_id in
    let node = child_node store (c.args.layer + 1) c.child.result c.node-node.result c.node-node.ensures is in
    let test : List ℕ → Bool = λ word. has store (id_at (c.args.layer + 1) c.node-node.result) word in
    let whole : List ℕ → Bool = λ word. has store c.args.set (value ∷ word) in
    record {
      count = c.loop-value.invariant.count;
      changing = changing_more store c.args.layer c.args.count (λ layers value next old new. CutColumn store (c.args.layer + 1) layers (λ word. has store c.args.set (value ∷ word)) next old new) value c.args.next.now.keys c.loop-value.next.keys c.cut_entries.new.next.keys c.args.self.now.columns.items c.loop-value.self.columns.items c.in_ok-cut.cut
          (cut_later store c.args.layer c.args.count c.args.set c.loop-value.next.keys c.cut_entries.new.next.keys c.in_ok-cut.ensures.next) inside h c.in_ok-cut.ensures.next
          (λ layers below. cut_same store (c.args.layer + 1) layers test whole c.cut_entries.new.next.keys old c.in_ok-cut.cut (λ word. node.1 word ∙ c.child.ensures.set word)
          (subst (λ (l : List ℕ). CutColumn store (c.args.layer + 1) layers test c.cut_entries.new.next.keys l c.in_ok-cut.cut) read (c.in_ok-cut.ensures.cut layers below)));
    }

pub returns-clause-cut : goal.returns-clause-cut
returns-clause-cut c = λ layers below.
    let h = c.loop-value.invariant.changing in
    let test = c.loop-value-test.false in
    let domain = c.domain-value-end.ensures.domain in
    let width = c.requires.width in
    record {
      count_is = c.loop-value.invariant.count;
      width = h.width;
      columns = λ value lt. h.changed layers below value (omega arith);
    }

pub returns-clause-next : goal.returns-clause-next
returns-clause-next c = c.loop-value.invariant.changing.more
