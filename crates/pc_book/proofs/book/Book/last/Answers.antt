use Rattle.std.proofs.Common.{rules}
use Rattle.pc_book.proofs.WrittenLemmas.{last-is}
use Rattle.pc_book.proofs.book.Book.last.Goals as goal

pub returns : goal.returns
returns c = last-is c.args.self.now c.as_slice-blocks.result.now c.index-blocks-blocks.result (search rules) c.requires.some c.index-blocks-blocks.is
