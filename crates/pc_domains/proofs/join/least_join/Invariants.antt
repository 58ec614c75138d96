-- From the place on all heads to come keep the bound on the second cost, and the least join so far is kept.
use Rattle.std.proofs.Common.{◌≡◌, ℕ, ◌<◌, ◌≤◌, length, true, slice_index_or, ◌+ℤ◌}
use Rattle.pc_diagram.specs.Bounds.{allows}
use Rattle.pc_pareto.specs.Fronts.{no_item}
use Rattle.pc_domains.specs.Joins.{IsLeastJoin}
use Rattle.pc_domains.proofs.join.least_join.Given as goal

abbrev pub invariant-loop-number : goal.invariant-loop-number
invariant-loop-number l =
    (l.place ≤ length l.tails)
    × ((head k : ℕ) → l.number ≤ head → head < length l.heads → l.place ≤ k → k < length l.tails
    → allows l.bounds.second ((slice_index_or l.heads head no_item).second +ℤ (l.price.second +ℤ (slice_index_or l.tails k no_item).second)) ≡ true)
    × IsLeastJoin l.heads l.tails l.price l.bounds l.number l.least
