-- From the place on the bound is kept.
use Rattle.pc_pareto.specs.Fronts.{no_item}
use Rattle.std.proofs.Common.{◌≡◌, ℕ, ◌<◌, ◌≤◌, length, true, slice_index_or, ◌+ℤ◌}
use Rattle.pc_diagram.specs.Bounds.{allows}
use Rattle.pc_domains.proofs.join.first_within.Given as goal

abbrev pub invariant-loop-place : goal.invariant-loop-place
invariant-loop-place l =
    (l.place ≤ l.from)
    × ((k : ℕ) → l.place ≤ k → k < length l.tails → allows l.most (l.head +ℤ (l.price +ℤ (slice_index_or l.tails k no_item).second)) ≡ true)

abbrev pub decreases-loop-place : goal.decreases-loop-place
decreases-loop-place l = l.place
