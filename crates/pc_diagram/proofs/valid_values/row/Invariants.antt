-- What is listed of the values so far.
use Rattle.std.proofs.Common.{◌≡◌}
use Rattle.pc_diagram.specs.Priced.{priced_items}
use Rattle.pc_diagram.proofs.valid_values.row.Given as goal

abbrev pub invariant-loop-value : goal.invariant-loop-value
invariant-loop-value l = l.row ≡ priced_items l.words l.priced l.variable l.value
