use Rattle.std.proofs.Common.{◌≡◌, ◌+◌, ◌<◌, ◌∙◌, ℕ, List, [], refl, sym, ap, subst, arith, length, get_or, All}
use Rattle.std.proofs.lemmas.Grind.{common_steps}
use Rattle.std.proofs.lemmas.List.{get_or_default, set-set}
use Rattle.pc_conjunction.specs.Meets.{ArePairs, GrownColumn}
use Rattle.pc_conjunction.proofs.LayerLemmas.{Changing, changing_none, changing_more, grown_later}
use Rattle.pc_conjunction.proofs.layer.Layer.add_pairs.Goals as goal

pub loop-value-init : goal.loop-value-init
loop-value-init c = record {
  count = refl;
  changing = changing_none c.args.store.now c.args.layer c.args.count (λ layers value next old new. GrownColumn c.args.store.now c.args.layer layers value c.args.pairs.now next old new) c.args.next.now.keys c.args.self.now.columns.items;
}

pub add_entries-requires-clause-pairs : goal.add_entries-requires-clause-pairs
add_entries-requires-clause-pairs c =
    let value = c.loop-value.value in
    let h = c.loop-value.invariant.changing in
    let inside : value < length c.args.self.now.columns.items = (let test = c.loop-value-test.true in let domain = c.domain-value-end.ensures.domain in let width = c.requires.width in omega arith) in
    let lt : value < length c.loop-value.self.columns.items = (let w = h.width in omega arith) in
    let old : List ℕ = get_or c.args.self.now.columns.items value [] in
    let read : c.replace-column.result ≡ old = c.replace-column.ensures.value ∙ c.index_mut.ensures.value ∙ get_or_default c.loop-value.self.columns.items value c.index_mut.result.now [] lt ∙ h.kept value (omega arith) in
    let width : length c.replace-column.result ≡ c.args.self.now.count = ap length read ∙ (c.requires.is_layer.columns value [] inside).width in
    subst (λ n. ArePairs c.args.store.now c.args.layer n c.args.pairs.now) (sym width) c.requires.pairs

pub add_entries-requires-clause-within : goal.add_entries-requires-clause-within
add_entries-requires-clause-within c =
    let value = c.loop-value.value in
    let h = c.loop-value.invariant.changing in
    let inside : value < length c.args.self.now.columns.items = (let test = c.loop-value-test.true in let domain = c.domain-value-end.ensures.domain in let width = c.requires.width in omega arith) in
    let lt : value < length c.loop-value.self.columns.items = (let w = h.width in omega arith) in
    let old : List ℕ = get_or c.args.self.now.columns.items value [] in
    let read : c.replace-column.result ≡ old = c.replace-column.ensures.value ∙ c.index_mut.ensures.value ∙ get_or_default c.loop-value.self.columns.items value c.index_mut.result.now [] lt ∙ h.kept value (omega arith) in
    subst (All (λ place. place < c.args.count)) (sym read) (c.requires.is_layer.columns value [] inside).within

pub loop-value-preserved : goal.loop-value-preserved
loop-value-preserved c =
    let value = c.loop-value.value in
    let h = c.loop-value.invariant.changing in
    let inside : value < length c.args.self.now.columns.items = (let test = c.loop-value-test.true in let domain = c.domain-value-end.ensures.domain in let width = c.requires.width in omega arith) in
    let lt : value < length c.loop-value.self.columns.items = (let w = h.width in omega arith) in
    let old : List ℕ = get_or c.args.self.now.columns.items value [] in
    let read : c.replace-column.result ≡ old = c.replace-column.ensures.value ∙ c.index_mut.ensures.value ∙ get_or_default c.loop-value.self.columns.items value c.index_mut.result.now [] lt ∙ h.kept value (omega arith) in
    let items = c.loop-value.self.columns.items in
    let again = set-set items value c.replace-column.new.dest c.add_entries.new.column in
    record {
      count = c.loop-value.invariant.count;
      changing = subst (Changing c.args.store.now c.args.layer c.args.count (λ layers value next old new. GrownColumn c.args.store.now c.args.layer layers value c.args.pairs.now next old new) (value + 1) c.args.next.now.keys c.add_entries.new.next.keys c.args.self.now.columns.items) (sym {A = List (List ℕ)} again)
          (changing_more c.args.store.now c.args.layer c.args.count (λ layers value next old new. GrownColumn c.args.store.now c.args.layer layers value c.args.pairs.now next old new) value c.args.next.now.keys c.loop-value.next.keys c.add_entries.new.next.keys c.args.self.now.columns.items items c.add_entries.new.column
          (grown_later c.args.store.now c.args.layer c.args.count c.args.pairs.now c.loop-value.next.keys c.add_entries.new.next.keys c.in_ok-add_entries.ensures.next) inside h c.in_ok-add_entries.ensures.next
          (λ layers below. subst (λ (l : List ℕ). GrownColumn c.args.store.now c.args.layer layers value c.args.pairs.now c.add_entries.new.next.keys l c.add_entries.new.column) read (c.in_ok-add_entries.ensures.grown layers below)));
    }

pub returns-clause-grown : goal.returns-clause-grown
returns-clause-grown c = λ layers below.
    let h = c.loop-value.invariant.changing in
    let test = c.loop-value-test.false in
    let domain = c.domain-value-end.ensures.domain in
    let width = c.requires.width in
    record {
      count_is = (let k = c.loop-value.invariant.count in let n = c.in_ok-number.ensures in grind (arith, common_steps, k, n));
      width = h.width;
      columns = λ value lt. h.changed layers below value (omega arith);
    }

pub returns-clause-next : goal.returns-clause-next
returns-clause-next c = c.loop-value.invariant.changing.more
