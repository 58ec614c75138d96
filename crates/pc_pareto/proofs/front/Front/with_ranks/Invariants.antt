use Rattle.std.proofs.Common.{◌≡◌, map, take}
use Rattle.pc_pareto.specs.Numbered.{with_rank, count_below}
use Rattle.pc_pareto.proofs.front.Front.with_ranks.Given as goal

abbrev pub invariant-loop-item : goal.invariant-loop-item
invariant-loop-item l = l.items.items ≡ map (with_rank (count_below l.ranks)) (take l.item-index l.self)
