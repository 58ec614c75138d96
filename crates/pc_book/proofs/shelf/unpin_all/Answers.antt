use Rattle.std.proofs.Common.{◌≡◌, ℕ, ◌-◌, ◌≤◌, List, slice_index_or, slice_set, refl, sym, ap, subst, ◌∙◌, arith}
use Rattle.pc_session.specs.Visit.{Visit}
use Rattle.pc_book.specs.declared.shelf.Shelf.{Shelf}
use Rattle.pc_book.specs.Shelves.{repinned, visits_at}
use Rattle.pc_book.proofs.WrittenLemmas.{written-at, written-end, written-next}
use Rattle.pc_book.proofs.shelf.unpin_all.Goals as goal

abbrev change : List Visit → Shelf → Shelf
change visits = repinned (λ number pins. pins - visits_at visits number)

pub overflow_sub-shelf : goal.overflow_sub-shelf
overflow_sub-shelf c =
    let i = c.loop-shelf.shelf-index in
    let at : slice_index_or c.loop-shelf.shelves i c.shelf-item.result ≡ slice_index_or c.args.shelves.now i c.shelf-item.result =
    ap (λ ss. slice_index_or ss i c.shelf-item.result) c.loop-shelf.invariant ∙ written-at (change c.args.sessions.now) c.args.shelves.now i c.shelf-item.result in
    let enough : visits_at c.args.sessions.now (slice_index_or c.loop-shelf.shelves i c.shelf-item.result).number ≤ (slice_index_or c.loop-shelf.shelves i c.shelf-item.result).pins =
    subst (λ (s : Shelf). visits_at c.args.sessions.now s.number ≤ s.pins) (sym at) (c.requires i c.shelf-item.result c.loop-shelf-test.true) in
    omega (arith, c.visits_at.ensures, enough)

pub loop-shelf-preserved : goal.loop-shelf-preserved
loop-shelf-preserved c =
    let i = c.loop-shelf.shelf-index in
    let same = ap (λ (n : ℕ). let s = slice_index_or c.loop-shelf.shelves i c.shelf-item.result in slice_set c.loop-shelf.shelves i (record { number = s.number; version = s.version; pins = s.pins - n })) c.visits_at.ensures in
    same ∙ written-next (change c.args.sessions.now) c.args.shelves.now c.loop-shelf.shelves i c.shelf-item.result (change c.args.sessions.now) c.loop-shelf.invariant c.loop-shelf-test.true (λ s. refl)

pub returns : goal.returns
returns c = c.loop-shelf.invariant ∙ written-end (change c.args.sessions.now) c.args.shelves.now c.loop-shelf.shelf-index c.loop-shelf-test.false c.loop-shelf.auto.shelf-index-end
