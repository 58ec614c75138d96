use Rattle.std.proofs.Common.{◌≡◌, map, take}
use Rattle.pc_pareto.specs.Numbered.{with_rank, count_below}
use Rattle.pc_pareto.proofs.number.renumbered.Given as goal

abbrev pub invariant-loop-front : goal.invariant-loop-front
invariant-loop-front l = l.fronts ≡ map (map (with_rank (count_below l.ranks))) (take l.front-index l.stage)
