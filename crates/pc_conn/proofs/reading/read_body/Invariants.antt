use Rattle.std.proofs.Common.{◌-◌}
use Rattle.pc_conn.proofs.BodyRead.{BodySoFar, Unmoved}
use Rattle.pc_conn.proofs.reading.read_body.Given as goal

abbrev pub invariant-loop-taken : goal.invariant-loop-taken
invariant-loop-taken g l =
    let s = g.S.Source in
    BodySoFar l.count l.taken l.text l.initial.lines (s.rest l.initial.source) l.lines (s.rest l.source) (s.read_faults l.initial.source) (s.read_faults l.source) (s.read_aside l.initial.source) (s.read_aside l.source)
    × Unmoved l.taken l.initial.lines l.lines l.initial.source l.source

-- each turn takes one of the lines
abbrev pub decreases-loop-taken : goal.decreases-loop-taken
decreases-loop-taken g l = l.count - l.taken
