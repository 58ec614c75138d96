-- The ledger of the blank.
use Rattle.units_sessions.proofs.main.Given as goal

abbrev pub ghosts-tell_all : goal.ghosts-tell_all
ghosts-tell_all a = record { name = a.blank.name; parts = a.blank.parts }
