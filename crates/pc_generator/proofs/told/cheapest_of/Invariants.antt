use Rattle.std.proofs.Common.{◌≡◌, map, take}
use Rattle.pc_diagram.specs.Best.{first_best}
use Rattle.pc_diagram.specs.Costs.{is_cheaper}
use Rattle.pc_generator.specs.Summary.{pair_listed}
use Rattle.pc_generator.proofs.told.cheapest_of.Given as goal

abbrev pub invariant-loop-item : goal.invariant-loop-item
invariant-loop-item l = l.cheapest ≡ first_best is_cheaper (map pair_listed (take l.item-index l.items))
