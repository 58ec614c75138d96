use Rattle.std.proofs.Common.{◌≡◌, take, reverse}
use Rattle.pc_conjunction.specs.Places.{domains}
use Rattle.pc_conjunction.proofs.stored.values_of.Given as goal

abbrev pub invariant-loop-place : goal.invariant-loop-place
invariant-loop-place l = l.domains ≡ take l.place (domains (reverse l.layers))
