use Rattle.std.proofs.Common.{◌≡◌, take}
use Rattle.pc_file.specs.Products.{value_counts}
use Rattle.pc_build.proofs.products.domains_of.Given as goal

abbrev pub invariant-loop-variable : goal.invariant-loop-variable
invariant-loop-variable l = l.domains ≡ value_counts (take l.variable-index l.variables)
