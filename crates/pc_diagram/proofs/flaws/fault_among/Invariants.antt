-- None of the flaws so far stands.
use Rattle.std.proofs.Common.{◌≡◌, drop}
use Rattle.pc_diagram.specs.DiagramFaults.{fault_among}
use Rattle.pc_diagram.proofs.flaws.fault_among.Given as goal

abbrev pub invariant-loop-flaw : goal.invariant-loop-flaw
invariant-loop-flaw l = fault_among l.raw l.flaws ≡ fault_among l.raw (drop l.flaw-index l.flaws)
