-- The ledger of the blank.
use Rattle.pc_top.proofs.listing.push_open_listing.Given as goal

abbrev pub ghosts-open_listing : goal.ghosts-open_listing
ghosts-open_listing a = record { name = a.blank.name; parts = a.blank.parts }
