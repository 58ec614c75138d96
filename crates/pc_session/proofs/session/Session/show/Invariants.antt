-- The ledger of the blank.
use Rattle.pc_session.proofs.session.Session.show.Given as goal

abbrev pub ghosts-show_by : goal.ghosts-show_by
ghosts-show_by a = record { name = a.blank.name; parts = a.blank.parts }
