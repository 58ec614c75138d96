-- The least of the labels so far.
use Rattle.pc_domains.specs.Floors.{IsLeastLabel}
use Rattle.pc_domains.proofs.floor.floor.Given as goal

abbrev pub invariant-loop-node : goal.invariant-loop-node
invariant-loop-node l = IsLeastLabel l.labels l.layer l.node l.least
