use Rattle.std.proofs.Common.{◌≡◌, map, take}
use Rattle.pc_book.specs.Shelves.{live_at}
use Rattle.pc_book.proofs.book.live_list.Given as goal

abbrev pub invariant-loop-shelf : goal.invariant-loop-shelf
invariant-loop-shelf l = l.live ≡ map live_at (take l.shelf-index l.fn.shelves)
