use Rattle.std.proofs.Common.{◌≡◌, ◌+◌, ◌∙◌, ℕ, Bool, List, ap, sym, subst, arith, length}
use Rattle.pc_store.specs.Sets.{has, id_at}
use Rattle.pc_conjunction.specs.Meets.{CutColumn}
use Rattle.pc_conjunction.proofs.ColumnLemmas.{Cutting, cutting_none, cutting_more, cutting_all, cut_by_all}
use Rattle.pc_conjunction.proofs.MeetLemmas.{more_none}
use Rattle.pc_conjunction.proofs.column.cut_entries.Goals as goal

pub returns-then-same_set-clause-cut : goal.returns-then-same_set-clause-cut
returns-then-same_set-clause-cut c = λ layers below.
    let store = c.args.store.now in
    let test : List ℕ → Bool = λ word. has store (id_at c.args.layer c.args.node) word in
    let all = λ (word : List ℕ). ap (λ id. has store id word) (sym c.at.ensures.id) ∙ c.same_set.ensures.0 c.if-same_set.true word ∙ c.full.ensures.set word in
    subst (λ (l : List ℕ). CutColumn store c.args.layer layers test c.args.next.now.keys c.args.column.now l) (sym c.in_ok-whole.ensures)
    (cut_by_all store c.args.layer c.args.count test c.args.next.now.keys c.args.column.now all c.requires.within layers below)

pub returns-then-same_set-clause-next : goal.returns-then-same_set-clause-next
returns-then-same_set-clause-next c = more_none c.args.store.now c.args.layer c.args.count c.args.next.now.keys

pub loop-place-init : goal.loop-place-init
loop-place-init c =
    let test : List ℕ → Bool = λ word. has c.args.store.now (id_at c.args.layer c.args.node) word in
    subst (Cutting c.args.store.now c.args.layer c.args.count test 0 c.args.next.now.keys c.args.next.now.keys c.args.column.now) (sym {A = List ℕ} c.in_ok-cut.ensures) (cutting_none c.args.store.now c.args.layer c.args.count test c.args.next.now.keys c.args.column.now)

pub loop-place-preserved : goal.loop-place-preserved
loop-place-preserved c =
    let store = c.args.store.now in
    let i = c.loop-place.place-index in
    let test : List ℕ → Bool = λ word. has store (id_at c.args.layer c.args.node) word in
    subst (Cutting store c.args.layer c.args.count test (i + 1) c.args.next.now.keys c.target.new.pairs.keys c.args.column.now) (sym {A = List ℕ} c.in_ok-push.ensures.ok)
    (cutting_more store c.args.layer c.args.count test i c.args.next.now.keys c.loop-place.next.keys c.target.new.pairs.keys c.args.column.now c.loop-place.cut c.in_ok-target.field-0 c.loop-place.invariant c.in_ok-target.ensures.pairs c.in_ok-target.ensures.empty c.in_ok-target.ensures.meets)

pub returns-clause-cut : goal.returns-clause-cut
returns-clause-cut c =
    let test : List ℕ → Bool = λ word. has c.args.store.now (id_at c.args.layer c.args.node) word in
    let end : c.loop-place.place-index ≡ length c.args.column.now = (let low = c.loop-place-test.false in let high = c.loop-place.auto.place-index-end in omega arith) in
    cutting_all c.args.store.now c.args.layer c.args.count test c.loop-place.place-index c.args.next.now.keys c.loop-place.next.keys c.args.column.now c.loop-place.cut end c.loop-place.invariant

pub returns-clause-next : goal.returns-clause-next
returns-clause-next c = c.loop-place.invariant.more
