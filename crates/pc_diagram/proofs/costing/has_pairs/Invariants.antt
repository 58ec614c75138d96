-- The rows so far have a pair for each value.
use Rattle.std.proofs.Common.{◌≡◌, ℕ, ◌<◌, [], length, get_or}
use Rattle.pc_diagram.proofs.costing.has_pairs.Given as goal

abbrev pub invariant-loop-variable : goal.invariant-loop-variable
invariant-loop-variable l = (i : ℕ) → i < l.variable → length (get_or l.costs i []) ≡ get_or l.domains i 0
