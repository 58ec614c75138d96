use Rattle.std.proofs.Common.{Bool, ◌≡◌, ◌+◌, ◌∙◌, ℕ, List, ◌∷◌, Some, sym, ap, subst, arith, length, slice_get, get_or}
use Rattle.std.proofs.lemmas.Option.{slice_get-get_or}
use Rattle.std.proofs.lemmas.Grind.{common_steps}
use Rattle.pc_store.specs.Sets.{has, IsId, IsIdAt}
use Rattle.pc_conjunction.specs.declared.pair.Pair.{Pair}
use Rattle.pc_conjunction.specs.Meets.{Meets, in_node}
use Rattle.pc_conjunction.proofs.MeetLemmas.{meets_same}
use Rattle.pc_conjunction.proofs.TargetLemmas.{child_node}
use Rattle.pc_conjunction.proofs.ColumnLemmas.{Growing, growing_none, growing_more, growing_all}
use Rattle.pc_conjunction.proofs.column.add_entries.Goals as goal

pub loop-pair-init : goal.loop-pair-init
loop-pair-init c = growing_none c.args.store.now c.args.layer c.args.count c.args.value c.args.pairs.now c.args.next.now.keys c.args.column.now

pub bounds-as_slice-pair : goal.bounds-as_slice-pair
bounds-as_slice-pair c =
    let none : Pair = record { place = 0; node = record { number = 0 } } in
    let i = c.loop-pair.pair-index in
    let pair : Pair = get_or c.args.pairs.now i none in
    let lt = (c.requires.pairs i pair (slice_get-get_or c.args.pairs.now i none c.loop-pair-test.true)).0 in
    let w = c.loop-pair.invariant.width in
    rw c.as_slice.ensures (omega arith)

pub overflow_add-layer : goal.overflow_add-layer
overflow_add-layer c = let inner = c.requires.inner in let few = c.requires.few in grind (arith, common_steps)

pub child-requires-clause-known : goal.child-requires-clause-known
child-requires-clause-known c =
    let none : Pair = record { place = 0; node = record { number = 0 } } in
    let i = c.loop-pair.pair-index in
    let pair : Pair = get_or c.args.pairs.now i none in
    let is = (c.requires.pairs i pair (slice_get-get_or c.args.pairs.now i none c.loop-pair-test.true)).1 in
    subst (IsId c.args.store.now) (sym c.at.ensures.id) is.0

pub target-requires-clause-place : goal.target-requires-clause-place
target-requires-clause-place c =
    let none : Pair = record { place = 0; node = record { number = 0 } } in
    let i = c.loop-pair.pair-index in
    let pair : Pair = get_or c.args.pairs.now i none in
    let lt = (c.requires.pairs i pair (slice_get-get_or c.args.pairs.now i none c.loop-pair-test.true)).0 in
    rw (c.as_slice.ensures, c.loop-pair.invariant.kept pair.place lt) (c.requires.within pair.place 0 lt)

pub target-requires-clause-node : goal.target-requires-clause-node
target-requires-clause-node c =
    let is : IsIdAt c.args.store.now (c.args.layer + 1) c.child.result = subst (λ l. IsIdAt c.args.store.now (l + 1) c.child.result) c.at.ensures.layer c.child.ensures.is_id in
    (child_node c.args.store.now (c.args.layer + 1) c.child.result c.node.result c.node.ensures is).0

pub loop-pair-preserved : goal.loop-pair-preserved
loop-pair-preserved c =
    let store = c.args.store.now in
    let none : Pair = record { place = 0; node = record { number = 0 } } in
    let i = c.loop-pair.pair-index in
    let pair : Pair = get_or c.args.pairs.now i none in
    let at : slice_get c.args.pairs.now i ≡ Some pair = slice_get-get_or c.args.pairs.now i none c.loop-pair-test.true in
    let lt = (c.requires.pairs i pair at).0 in
    let is : IsIdAt store (c.args.layer + 1) c.child.result = subst (λ l. IsIdAt store (l + 1) c.child.result) c.at.ensures.layer c.child.ensures.is_id in
    let node = child_node store (c.args.layer + 1) c.child.result c.node.result c.node.ensures is in
    let next_pair : Pair = record { place = get_or c.as_slice.result.now pair.place 0; node = c.node.result } in
    let place_is : get_or c.as_slice.result.now pair.place 0 ≡ get_or c.args.column.now pair.place 0 = ap (λ (l : List ℕ). get_or l pair.place 0) c.as_slice.ensures ∙ c.loop-pair.invariant.kept pair.place lt in
    let test : List ℕ → Bool = λ word. in_node store c.args.layer pair (c.args.value ∷ word) in
    let same : (word : List ℕ) → in_node store (c.args.layer + 1) next_pair word ≡ test word = λ word. node.1 word ∙ c.child.ensures.set word ∙ ap (λ id. has store id (c.args.value ∷ word)) c.at.ensures.id in
    subst (Growing store c.args.layer c.args.count c.args.value c.args.pairs.now (i + 1) c.args.next.now.keys c.target.new.pairs.keys c.args.column.now) (sym {A = List ℕ} c.in_ok-push.ensures.ok)
    (growing_more store c.args.layer c.args.count c.args.value c.args.pairs.now i c.args.next.now.keys c.loop-pair.next.keys c.target.new.pairs.keys c.args.column.now c.loop-pair.column pair c.in_ok-target.field-0 at c.loop-pair.invariant c.in_ok-target.ensures.pairs
    (λ layers below. subst (λ p. Meets store (c.args.layer + 1) layers c.target.new.pairs.keys p test c.in_ok-target.field-0) place_is
    (meets_same store (c.args.layer + 1) layers c.target.new.pairs.keys next_pair.place (in_node store (c.args.layer + 1) next_pair) test c.in_ok-target.field-0 same (c.in_ok-target.ensures.meets layers below))))

pub returns-clause-grown : goal.returns-clause-grown
returns-clause-grown c =
    let end : c.loop-pair.pair-index ≡ length c.args.pairs.now = (let low = c.loop-pair-test.false in let high = c.loop-pair.auto.pair-index-end in omega arith) in
    growing_all c.args.store.now c.args.layer c.args.count c.args.value c.args.pairs.now c.loop-pair.pair-index c.args.next.now.keys c.loop-pair.next.keys c.args.column.now c.loop-pair.column end c.loop-pair.invariant

pub returns-clause-next : goal.returns-clause-next
returns-clause-next c = c.loop-pair.invariant.more
