use Rattle.std.proofs.Common.{◌≡◌, [], IsTrue}
use Rattle.units_bytes.proofs.lines.tell_reads.Given as goal

-- the source has nothing left once it gave its end
abbrev pub invariant-loop : goal.invariant-loop
invariant-loop g l = IsTrue l.lines.ended → l.source.left ≡ []
