use Rattle.pc_io.proofs.PlannedFaults.{failed_among-more}
use Rattle.pc_io.proofs.calls.PlannedCalls.next_fails.Goals as goal

pub returns-clause-counted : goal.returns-clause-counted
returns-clause-counted c =
    rw (c.contains-fails.ensures.value, c.deref.ensures.value, ← c.self.view_is) (failed_among-more c.self.inside.failing.items c.self.inside.made)
