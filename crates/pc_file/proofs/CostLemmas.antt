-- The costs of a file are prices.
use Rattle.std.proofs.Common.{◌≡◌, ℕ, ℤ, pos, neg_ℤ, ◌≤◌, ◌≤ℤ◌, true, ◌&&◌, ◌||◌, ◌==◌, int_le, not, List, [], ◌∷◌, length, map, All, arith}
use Rattle.std.specs.List.{list_all, AllByRecursion}
use Rattle.std.specs.Ordering.{int_eq}
use Rattle.std.proofs.lemmas.Int.{ints}
use Rattle.std.proofs.lemmas.List.{length-map}
use Rattle.std.proofs.lemmas.List.Elements.{All-from_recursion}
use Rattle.pc_base.proofs.DistinctLemmas.{both_true_parts}
use Rattle.pc_diagram.specs.Costs.{IsPrice, IsPricePair, IsPriced}
use Rattle.pc_file.specs.declared.variable.Value.{Value}
use Rattle.pc_file.specs.declared.variable.Variable.{Variable}
use Rattle.pc_file.specs.Limits.{is_cost, is_value, is_reserved, is_sized, is_variable}
use Rattle.pc_file.specs.Costs.{pair_of, costs_of}

int_le-true : (x y : ℤ) → int_le x y ≡ true → x ≤ℤ y
int_le-true x y h = grind (arith, ints)

price : (cost : ℤ) → is_cost cost ≡ true → IsPrice cost
price cost h =
    let parts = both_true_parts (int_le (neg_ℤ (pos 1000000000)) cost) (int_le cost (pos 1000000000)) h in
    (int_le-true _ _ parts.0, int_le-true _ _ parts.1)

prices : (costs : ℕ) (value : Value) → is_value costs value ≡ true → IsPricePair (pair_of value)
prices costs value h =
    let parts = both_true_parts (is_cost value.first && is_cost value.second) (costs == 2 || int_eq value.second (pos 0)) h in
    let both = both_true_parts (is_cost value.first) (is_cost value.second) parts.0 in
    record { in_first = price value.first both.0; in_second = price value.second both.1 }

row : (costs : ℕ) (values : List Value) → list_all (is_value costs) values ≡ true → AllByRecursion IsPricePair (map pair_of values)
row costs [] h = tt
row costs (v ∷ vs) h =
    let parts = both_true_parts (is_value costs v) (list_all (is_value costs) vs) h in
    (prices costs v parts.0, row costs vs parts.1)

rows : (costs : ℕ) (variables : List Variable) → list_all (is_variable costs) variables ≡ true → AllByRecursion (λ r. All IsPricePair r) (costs_of variables)
rows costs [] h = tt
rows costs (v ∷ vs) h =
    let parts = both_true_parts (is_variable costs v) (list_all (is_variable costs) vs) h in
    let last = both_true_parts (not (is_reserved v.name) && is_sized v) (list_all (is_value costs) v.values) parts.0 in
    (All-from_recursion IsPricePair (map pair_of v.values) (row costs v.values last.1), rows costs vs parts.1)

pub priced : (costs : ℕ) (variables : List Variable) → length variables ≤ 64 → list_all (is_variable costs) variables ≡ true → IsPriced (costs_of variables)
priced costs variables few each = record {
  few = omega (arith, length-map variables (λ v. map pair_of v.values));
  in_range = All-from_recursion (λ r. All IsPricePair r) (costs_of variables) (rows costs variables each);
}
