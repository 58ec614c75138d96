use Rattle.std.proofs.Common.{◌≡◌, ℕ, ◌+◌, nat_eq, slice_index_or, slice_set, refl, ap, ◌∙◌, arith}
use Rattle.pc_book.specs.declared.shelf.Shelf.{Shelf}
use Rattle.pc_book.specs.Shelves.{one_at, repinned}
use Rattle.pc_book.proofs.WrittenLemmas.{byte-one, one-small, written-at, written-end, written-next}
use Rattle.pc_book.proofs.shelf.pin.Goals as goal

abbrev change : ℕ → Shelf → Shelf
change version = repinned (λ number pins. pins + one_at version number)

pub overflow_add-shelf : goal.overflow_add-shelf
overflow_add-shelf c =
    let i = c.loop-shelf.shelf-index in
    let at : slice_index_or c.loop-shelf.shelves i c.shelf-item.result ≡ slice_index_or c.args.shelves.now i c.shelf-item.result =
    ap (λ ss. slice_index_or ss i c.shelf-item.result) c.loop-shelf.invariant ∙ written-at (change c.args.version) c.args.shelves.now i c.shelf-item.result in
    omega (arith, ap (λ (s : Shelf). s.pins) at, c.requires i c.shelf-item.result c.loop-shelf-test.true, c.from.ensures ∙ byte-one (nat_eq (slice_index_or c.loop-shelf.shelves i c.shelf-item.result).number c.args.version), one-small c.args.version (slice_index_or c.loop-shelf.shelves i c.shelf-item.result).number)

pub loop-shelf-preserved : goal.loop-shelf-preserved
loop-shelf-preserved c =
    let i = c.loop-shelf.shelf-index in
    let same = ap (λ (n : ℕ). let s = slice_index_or c.loop-shelf.shelves i c.shelf-item.result in slice_set c.loop-shelf.shelves i (record { number = s.number; version = s.version; pins = s.pins + n })) (c.from.ensures ∙ byte-one (nat_eq (slice_index_or c.loop-shelf.shelves i c.shelf-item.result).number c.args.version)) in
    same ∙ written-next (change c.args.version) c.args.shelves.now c.loop-shelf.shelves i c.shelf-item.result (change c.args.version) c.loop-shelf.invariant c.loop-shelf-test.true (λ s. refl)

pub returns : goal.returns
returns c = c.loop-shelf.invariant ∙ written-end (change c.args.version) c.args.shelves.now c.loop-shelf.shelf-index c.loop-shelf-test.false c.loop-shelf.auto.shelf-index-end
