-- The ledger of the blank.
use Rattle.pc_session.proofs.session.Session.bound.Given as goal

abbrev pub ghosts-bound : goal.ghosts-bound
ghosts-bound a = record { name = a.blank.name; parts = a.blank.parts }
