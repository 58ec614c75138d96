use Rattle.std.proofs.Common.{◌≡◌, ℕ, ◌≤◌, length, take, drop}
use Rattle.std.specs.Io.KnownBytes.{append_known}
use Rattle.pc_io.proofs.put.put_all.Given as goal

-- so many bytes are written, and the others are left
abbrev pub invariant-loop-left : goal.invariant-loop-left
invariant-loop-left g l =
    (done : ℕ) × (done ≤ length l.bytes) × (l.left ≡ drop done l.bytes)
    × (g.K.Sink.written l.sink ≡ append_known (g.K.Sink.written l.initial.sink) (take done l.bytes))
    × (g.K.Sink.write_faults l.sink ≡ g.K.Sink.write_faults l.initial.sink)
    × (g.K.Sink.write_aside l.sink ≡ g.K.Sink.write_aside l.initial.sink)

abbrev pub decreases-loop-left : goal.decreases-loop-left
decreases-loop-left g l = length l.left
