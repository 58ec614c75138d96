-- The ledger of the blank.
use Rattle.pc_session.proofs.session.Session.unbound.Given as goal

abbrev pub ghosts-unbound : goal.ghosts-unbound
ghosts-unbound a = record { name = a.blank.name; parts = a.blank.parts }
