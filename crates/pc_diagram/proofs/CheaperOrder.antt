-- To be cheaper is a strict weak order.
use Rattle.std.proofs.Common.{◌≡◌, List, true, false, ℤ, arith}
use Rattle.std.specs.Prelude.{int_lt}
use Rattle.std.specs.Cmp.{IsStrictWeakOrder}
use Rattle.std.proofs.lemmas.Int.{ints}
use Rattle.pc_diagram.specs.declared.costs.CostPair.{CostPair}
use Rattle.pc_diagram.specs.Costs.{cost_pair, is_cheaper}
use Rattle.pc_diagram.specs.Best.{is_cheaper_word}
use Rattle.pc_diagram.specs.Priced.{is_cheaper_priced}

lt_one_way : (a b : ℤ) → int_lt a b ≡ true → int_lt b a ≡ false
lt_one_way a b h = grind (arith, ints)

lt_chain : (a b c : ℤ) → int_lt a b ≡ false → int_lt b c ≡ false → int_lt a c ≡ false
lt_chain a b c h k = grind (arith, ints)

one_way : (x y : CostPair) → is_cheaper x y ≡ true → is_cheaper y x ≡ false
one_way x y h = grind (arith, ints)

chain : (x y z : CostPair) → is_cheaper x y ≡ false → is_cheaper y z ≡ false → is_cheaper x z ≡ false
chain x y z h k = grind (arith, ints)

pub is_cheaper_order : IsStrictWeakOrder is_cheaper
is_cheaper_order = record { one_way = one_way; chain = chain }

-- by the costs of words
pub is_cheaper_word_order : (costs : List (List CostPair)) → IsStrictWeakOrder (is_cheaper_word costs)
is_cheaper_word_order costs = record {
  one_way = λ x y. one_way (cost_pair costs x) (cost_pair costs y);
  chain = λ x y z. chain (cost_pair costs x) (cost_pair costs y) (cost_pair costs z);
}

-- by the pairs that are kept beside places
pub is_cheaper_priced_order : IsStrictWeakOrder is_cheaper_priced
is_cheaper_priced_order = record {
  one_way = λ x y. one_way x.pair y.pair;
  chain = λ x y z. chain x.pair y.pair z.pair;
}
