use Rattle.std.proofs.Common.{◌≡◌, ◌+◌, ◌-◌, length, if◌then◌else◌}
use Rattle.pc_io.specs.Held.{held}
use Rattle.pc_io.proofs.ReadingKept.{Kept}
use Rattle.pc_io.proofs.reading.read_line.Given as goal

abbrev pub invariant-loop-most : goal.invariant-loop-most
invariant-loop-most g l =
    let s = g.S.Source in
    Kept l.initial.pending l.pending (s.rest l.initial.source) (s.rest l.source) (s.read_faults l.initial.source) (s.read_faults l.source) (s.read_aside l.initial.source) (s.read_aside l.source) (l.source ≡ l.initial.source)

-- each block adds a byte, or ends the reading
abbrev pub decreases-loop-most : goal.decreases-loop-most
decreases-loop-most g l = (l.most + 1 - length (held l.pending)) + (if l.pending.ended then 0 else 1)
