-- The two orders of pairs of costs that paths are kept by.
use Rattle.std.specs.Prelude.{◌≡◌, true, false}
use Rattle.pc_diagram.specs.declared.costs.CostPair.{CostPair}
use Rattle.pc_diagram.specs.Costs.{is_cheaper}
use Rattle.pc_pareto.specs.Front.{is_at_most}

-- no dearer: labels keep the cheapest path of a node
abbrev pub IsNoDearer : CostPair → CostPair → Type 0
IsNoDearer pair other = is_cheaper other pair ≡ false

-- at most as much by either cost: fronts keep a path for each pair of costs of a node's paths that no other is at most
abbrev pub IsAtMost : CostPair → CostPair → Type 0
IsAtMost pair other = is_at_most pair other ≡ true
