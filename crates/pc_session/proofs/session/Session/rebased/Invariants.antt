-- The ledger of the blank.
use Rattle.pc_session.proofs.session.Session.rebased.Given as goal

abbrev pub ghosts-moved_to : goal.ghosts-moved_to
ghosts-moved_to a = record { name = a.blank.name; parts = a.blank.parts }
