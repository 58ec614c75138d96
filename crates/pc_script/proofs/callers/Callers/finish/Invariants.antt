use Rattle.std.proofs.Common.{◌≡◌, length}
use Rattle.pc_book.specs.Book.{history_of}
use Rattle.pc_script.proofs.FinishLemmas.{AreLeft}
use Rattle.pc_script.proofs.callers.Callers.finish.Given as goal

abbrev pub invariant-loop-own : goal.invariant-loop-own
invariant-loop-own l = AreLeft (history_of l.initial.book) l.book l.own-iterator.rest.items × (l.own-iterator.rest.len ≡ length l.own-iterator.rest.items)
