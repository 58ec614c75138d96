-- The fitting words so far, each with its costs.
use Rattle.std.proofs.Common.{◌≡◌, take, map, All}
use Rattle.pc_diagram.specs.Fitting.{fitting}
use Rattle.pc_diagram.specs.Priced.{word_at, IsPriceOf}
use Rattle.pc_diagram.proofs.priced.price_fitting.Given as goal

abbrev pub invariant-loop-place : goal.invariant-loop-place
invariant-loop-place l = record {
  so_far : map (word_at l.words) l.priced.items ≡ fitting l.costs (take l.place l.words) l.choices l.bounds;
  prices : All (IsPriceOf l.costs l.words) l.priced.items;
}
