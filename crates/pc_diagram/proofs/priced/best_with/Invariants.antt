-- The best of those so far.
use Rattle.std.proofs.Common.{◌≡◌, true, take, IfSome}
use Rattle.pc_diagram.specs.Priced.{takes_at, cheapest, taking_places}
use Rattle.pc_diagram.proofs.priced.best_with.Given as goal

abbrev pub invariant-loop-next : goal.invariant-loop-next
invariant-loop-next l = record {
  so_far : l.best ≡ cheapest (taking_places l.words (take l.next-index l.priced) l.variable l.value);
  taken : IfSome l.best (λ p. takes_at l.words l.variable l.value p ≡ true);
}
