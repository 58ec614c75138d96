-- What is listed of the variables so far.
use Rattle.std.proofs.Common.{◌≡◌, map}
use Rattle.std.specs.List.{range_with_len}
use Rattle.pc_diagram.specs.Listing.{value_count}
use Rattle.pc_diagram.specs.Priced.{priced_items}
use Rattle.pc_diagram.proofs.valid_values.rows.Given as goal

abbrev pub invariant-loop-variable : goal.invariant-loop-variable
invariant-loop-variable l =
    l.rows ≡ map (λ variable. priced_items l.words l.priced variable (value_count l.costs variable)) (range_with_len 0 l.variable)
