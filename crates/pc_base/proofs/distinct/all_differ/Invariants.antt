use Rattle.std.proofs.Common.{◌≡◌, ◌==◌, length}
use Rattle.pc_base.specs.Distinct.{all_differ}
use Rattle.pc_base.proofs.distinct.all_differ.Given as goal

abbrev pub invariant-loop-first : goal.invariant-loop-first
invariant-loop-first l = all_differ ◌==◌ l.rest ≡ all_differ ◌==◌ l.numbers

abbrev pub decreases-loop-first : goal.decreases-loop-first
decreases-loop-first l = length l.rest
