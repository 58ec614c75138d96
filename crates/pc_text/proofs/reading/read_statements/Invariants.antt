use Rattle.std.proofs.Common.{◌≡◌, ◌-◌, ◌≤◌, length}
use Rattle.pc_base.specs.Lines.{lines}
use Rattle.pc_text.specs.FirstFault.{fault_from, given_from, first_fault, given_by}
use Rattle.pc_text.specs.Draft.{given_of}
use Rattle.pc_text.proofs.reading.read_statements.Given as goal

abbrev pub invariant-loop-rest : goal.invariant-loop-rest
invariant-loop-rest l = record {
  within : length l.rest ≤ length l.text;
  numbered : l.number ≤ 8193;
  fault : fault_from (given_of l.draft) l.number (length l.text - length l.rest) (length l.text) (lines l.rest) ≡ first_fault l.text;
  given : given_from (given_of l.draft) (lines l.rest) ≡ given_by l.text;
}

abbrev pub decreases-loop-rest : goal.decreases-loop-rest
decreases-loop-rest l = length l.rest
