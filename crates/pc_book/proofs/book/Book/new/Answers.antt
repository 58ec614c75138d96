use Rattle.std.proofs.Common.{rules}
use Rattle.pc_book.proofs.BookLemmas.{empty-by}
use Rattle.pc_book.proofs.book.Book.new.Goals as goal

pub invariant_of-result : goal.invariant_of-result
invariant_of-result c = (empty-by c.new-2.result.items c.new.result.items (search rules) (search rules), search rules)
