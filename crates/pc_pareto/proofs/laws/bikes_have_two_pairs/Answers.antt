use Rattle.std.proofs.Common.{◌≡◌, refl, arith, Contains, Some}
use Rattle.std.proofs.lemmas.Int.{ints}
use Rattle.std.proofs.lemmas.List.Elements.{All-from_recursion}
use Rattle.pc_pareto.specs.BikeFronts.{offered_items, kept_items, ranked}
use Rattle.pc_pareto.specs.Items.{pair_of, best_of_pair, IsCovered, IsFrontOf}
use Rattle.pc_pareto.proofs.laws.bikes_have_two_pairs.Goals as goal

first : Contains kept_items (ranked 380 3 0)
first = (0, omega arith, refl)

second : Contains kept_items (ranked 580 2 4)
second = (1, omega arith, refl)

front : IsFrontOf offered_items kept_items
front = record {
  falls = (((omega (arith, ints), omega (arith, ints)), tt), (tt, tt));
  among = All-from_recursion (Contains offered_items) kept_items ((1, omega arith, refl), ((0, omega arith, refl), tt));
  covered = All-from_recursion (IsCovered kept_items) offered_items ((ranked 580 2 4, second, refl), ((ranked 380 3 0, first, refl), ((ranked 380 3 0, first, refl), ((ranked 380 3 0, first, refl), tt))));
}

pub returns : goal.returns
returns c = record {
  front = refl;
  offered = record { front = front; best = All-from_recursion (λ item. best_of_pair offered_items (pair_of item) ≡ Some item) kept_items (refl, (refl, tt)) };
}
