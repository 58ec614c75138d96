-- The ledger of the blank.
use Rattle.pc_dump.proofs.writing.push_dump.Given as goal

abbrev pub ghosts-push_lines : goal.ghosts-push_lines
ghosts-push_lines a = record { name = a.blank.name; parts = a.blank.parts }
