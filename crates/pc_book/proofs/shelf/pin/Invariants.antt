use Rattle.std.proofs.Common.{◌≡◌, ◌+◌}
use Rattle.pc_book.specs.Shelves.{one_at, repinned}
use Rattle.pc_book.proofs.WrittenLemmas.{written}
use Rattle.pc_book.proofs.shelf.pin.Given as goal

abbrev pub invariant-loop-shelf : goal.invariant-loop-shelf
invariant-loop-shelf l = l.shelves ≡ written l.shelf-index (repinned (λ number pins. pins + one_at l.fn.version number)) l.fn.shelves
