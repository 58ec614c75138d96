use Rattle.pc_book.proofs.publishing.shelve_built.Goals as goal

pub returns-in-Ok-clause-brings : goal.returns-in-Ok-clause-brings
returns-in-Ok-clause-brings c = rw c.in-Ok.is c.shelve.ensures.brings
