-- The ledger of the blank.
use Rattle.pc_session.proofs.session.Session.start.Given as goal

abbrev pub ghosts-first_board : goal.ghosts-first_board
ghosts-first_board a = record { name = a.blank.name; parts = a.blank.parts }
