-- The ledger of the blank.
use Rattle.pc_book.proofs.guest.Guest.change.Given as goal

abbrev pub ghosts-changed : goal.ghosts-changed
ghosts-changed a = record { name = a.blank.name; parts = a.blank.parts }
