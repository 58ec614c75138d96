-- The ledger of the blank.
use Rattle.units_diagrams.proofs.main.Given as goal

abbrev pub ghosts-tell_diagram : goal.ghosts-tell_diagram
ghosts-tell_diagram a = record { name = a.blank.name; parts = a.blank.parts }
