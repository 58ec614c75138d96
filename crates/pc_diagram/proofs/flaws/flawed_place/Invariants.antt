-- The flaw doesn't stand so far.
use Rattle.std.proofs.Common.{◌≡◌, drop}
use Rattle.pc_diagram.specs.DiagramFaults.{flawed_place}
use Rattle.pc_diagram.specs.Levels.{levels}
use Rattle.pc_diagram.proofs.flaws.flawed_place.Given as goal

abbrev pub invariant-loop-variable : goal.invariant-loop-variable
invariant-loop-variable l = flawed_place l.flaw 0 (levels l.raw) ≡ flawed_place l.flaw l.variable (drop l.variable (levels l.raw))
