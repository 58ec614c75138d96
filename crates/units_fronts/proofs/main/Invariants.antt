-- The ledger of the blank.
use Rattle.units_fronts.proofs.main.Given as goal

abbrev pub ghosts-tell_diagrams : goal.ghosts-tell_diagrams
ghosts-tell_diagrams a = record { name = a.blank.name; parts = a.blank.parts }
