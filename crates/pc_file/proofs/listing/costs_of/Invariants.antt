use Rattle.std.proofs.Common.{◌≡◌, take}
use Rattle.pc_file.specs.Costs.{costs_of}
use Rattle.pc_file.proofs.listing.costs_of.Given as goal

abbrev pub invariant-loop-variable : goal.invariant-loop-variable
invariant-loop-variable l = l.costs ≡ costs_of (take l.variable-index l.variables)
