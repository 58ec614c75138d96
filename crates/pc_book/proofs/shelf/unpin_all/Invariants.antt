use Rattle.std.proofs.Common.{◌≡◌, ◌-◌}
use Rattle.pc_book.specs.Shelves.{repinned, visits_at}
use Rattle.pc_book.proofs.WrittenLemmas.{written}
use Rattle.pc_book.proofs.shelf.unpin_all.Given as goal

abbrev pub invariant-loop-shelf : goal.invariant-loop-shelf
invariant-loop-shelf l = l.shelves ≡ written l.shelf-index (repinned (λ number pins. pins - visits_at l.sessions number)) l.fn.shelves
