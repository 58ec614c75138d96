-- The lines so far were taken.
use Rattle.std.proofs.Common.{◌-◌}
use Rattle.pc_dump.proofs.ReadLemmas.{ReadLines}
use Rattle.pc_dump.proofs.reading.read_dump.Given as goal

abbrev pub invariant-loop-reader : goal.invariant-loop-reader
invariant-loop-reader g l =
    let s = g.S.Source in
    ReadLines l.line_limit l.total_limit l.reader l.lines (s.rest l.initial.source) (s.rest l.source) (s.read_faults l.initial.source) (s.read_faults l.source) (s.read_aside l.initial.source) (s.read_aside l.source)

-- each line takes a byte of those that may be given
abbrev pub decreases-loop-reader : goal.decreases-loop-reader
decreases-loop-reader g l = l.total_limit - l.lines.given
