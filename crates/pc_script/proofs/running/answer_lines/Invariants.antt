use Rattle.std.proofs.Common.{◌-◌}
use Rattle.pc_script.proofs.ScriptRun.{ScriptSoFar}
use Rattle.pc_script.proofs.running.answer_lines.Given as goal

abbrev pub invariant-loop-callers : goal.invariant-loop-callers
invariant-loop-callers g l =
    let s = g.S.Source in
    let k = g.K.Sink in
    ScriptSoFar l.lines l.callers (s.rest l.initial.source) (s.rest l.source) (k.written l.initial.sink) (k.written l.sink) (s.read_faults l.initial.source) (s.read_faults l.source) (k.write_faults l.initial.sink) (k.write_faults l.sink)
    (s.read_aside l.initial.source) (s.read_aside l.source) (k.write_aside l.initial.sink) (k.write_aside l.sink)

-- each turn takes a byte of those that may be given
abbrev pub decreases-loop-callers : goal.decreases-loop-callers
decreases-loop-callers g l = l.lines.total_limit - l.lines.given
