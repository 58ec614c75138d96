-- What the values of a file cost, and its valid values.
use Rattle.std.specs.Prelude.{List, map}
use Rattle.pc_diagram.specs.declared.bounds.Bounds.{Bounds}
use Rattle.pc_diagram.specs.declared.choice.Choice.{Choice}
use Rattle.pc_diagram.specs.declared.costs.CostPair.{CostPair}
use Rattle.pc_diagram.specs.declared.listed.Listed.{Listed}
use Rattle.pc_diagram.specs.Listing.{listing}
use Rattle.pc_file.specs.declared.variable.Value.{Value}
use Rattle.pc_file.specs.declared.variable.Variable.{Variable}
use Rattle.pc_file.specs.Limits.{Contents}
use Rattle.pc_file.specs.Products.{products}

-- the two costs of a value
abbrev pub pair_of : Value → CostPair
pair_of value = record { first = value.first; second = value.second }

-- per variable, the costs of each of its values
abbrev pub costs_of : List Variable → List (List CostPair)
costs_of variables = map (λ variable. map pair_of variable.values) variables

-- the valid values of every variable under choices and bounds, each with the cheapest product that takes it
abbrev pub file_listing : Contents → List Choice → Bounds → List (List Listed)
file_listing file choices bounds = listing (costs_of file.variables) (products file) choices bounds
