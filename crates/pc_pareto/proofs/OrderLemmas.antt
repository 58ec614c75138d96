-- The order of items: by first cost, then by second cost, then by rank.
use Rattle.std.proofs.Common.{◌≡◌, ◌+◌, ◌<◌, ◌≤◌, ℕ, ◌<ℤ◌, List, [], ◌∷◌, length, get_or, true, false, Bool, ◌⊎◌, arith, is_lt, int_cmp, suc}
use Rattle.std.specs.Cmp.{IsStrictWeakOrder}
use Rattle.std.specs.List.Sorted.{IsSortedBy}
use Rattle.std.specs.Ordering.{ordering_then, nat_cmp}
use Rattle.std.proofs.lemmas.Bool.{false_from_ne_true}
use Rattle.std.proofs.lemmas.Bool.Decides.{nat_tests}
use Rattle.std.proofs.lemmas.Int.{ints}
use Rattle.std.proofs.lemmas.List.Elements.{recursion_from_All}
use Rattle.std.proofs.lemmas.List.Sorted.{sorted_far}
use Rattle.pc_pareto.specs.declared.front_item.FrontItem.{FrontItem}
use Rattle.pc_pareto.specs.Items.{precedes}
use Rattle.pc_pareto.proofs.SweepLemmas.{InOrder}

-- by the three numbers
abbrev Less : FrontItem → FrontItem → Type 0
Less x y = (x.first <ℤ y.first) ⊎ ((x.first ≡ y.first) × ((x.second <ℤ y.second) ⊎ ((x.second ≡ y.second) × (x.back.rank < y.back.rank))))

less_from : (x y : FrontItem) → precedes x y ≡ true → Less x y
less_from x y h = grind (arith, ints, nat_tests)

not_less_from : (x y : FrontItem) → precedes x y ≡ false → Less x y → ⊥
not_less_from x y h k = grind (arith, ints, nat_tests)

chain : (x y z : FrontItem) → precedes x y ≡ false → precedes y z ≡ false → precedes x z ≡ false
chain x y z h k = false_from_ne_true (precedes x z) (λ t. apart x y z (not_less_from x y h) (not_less_from y z k) (less_from x z t))
  where
    apart : (x y z : FrontItem) → (Less x y → ⊥) → (Less y z → ⊥) → Less x z → ⊥
    apart x y z h k t = grind (arith, ints)

one_way : (x y : FrontItem) → precedes x y ≡ true → precedes y x ≡ false
one_way x y h = false_from_ne_true (precedes y x) (λ t. apart (less_from x y h) (less_from y x t))
  where
    apart : Less x y → Less y x → ⊥
    apart h k = grind (arith, ints)

pub precedes_order : IsStrictWeakOrder precedes
precedes_order = record { one_way = one_way; chain = chain }

-- as three comparisons in order tell it
abbrev pub triple_less : FrontItem → FrontItem → Bool
triple_less x y = is_lt (ordering_then (ordering_then (int_cmp x.first y.first) (int_cmp x.second y.second)) (nat_cmp x.back.rank y.back.rank))

triple_is : (x y : FrontItem) → triple_less x y ≡ false → precedes x y ≡ false
triple_is x y h = grind (arith, ints, nat_tests)

ordered_from : (xs : List FrontItem) → ((i j : ℕ) (d : FrontItem) → i ≤ j → j < length xs → precedes (get_or xs j d) (get_or xs i d) ≡ false) → InOrder xs
ordered_from [] f = tt
ordered_from (x ∷ xs) f =
    (recursion_from_All (λ y. precedes y x ≡ false) xs (λ k d l. f 0 (suc k) d (omega arith) (omega arith)), ordered_from xs (λ i j d p q. f (suc i) (suc j) d (omega arith) (omega arith)))

-- items that a sort left in the order of the three numbers
pub sorted_in_order : (xs : List FrontItem) → IsSortedBy triple_less xs → InOrder xs
sorted_in_order xs up =
    ordered_from xs (sorted_far precedes precedes_order xs (λ k d p q. triple_is (get_or xs (k + 1) d) (get_or xs k d) (up k d p q)))
