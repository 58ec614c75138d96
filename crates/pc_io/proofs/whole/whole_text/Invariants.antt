use Rattle.std.proofs.Common.{◌-◌}
use Rattle.pc_io.proofs.WholeRead.{ReadSoFar}
use Rattle.pc_io.proofs.whole.whole_text.Given as goal

abbrev pub invariant-loop-text : goal.invariant-loop-text
invariant-loop-text g l =
    let s = g.S.Source in
    ReadSoFar l.line_limit l.total_limit l.text l.lines (s.rest l.initial.source) (s.rest l.source) (s.read_faults l.initial.source) (s.read_faults l.source) (s.read_aside l.initial.source) (s.read_aside l.source)

-- each line takes a byte of those that may be given
abbrev pub decreases-loop-text : goal.decreases-loop-text
decreases-loop-text g l = l.total_limit - l.lines.given
