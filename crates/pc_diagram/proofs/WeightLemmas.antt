-- Paths as numbers, and back.
use Rattle.std.proofs.Common.{◌≡◌, ◌≢◌, ℕ, ◌+◌, ◌*◌, ◌/◌, ◌%◌, ◌<◌, nat_lt, ℤ, pos, ◌+ℤ◌, ◌-ℤ◌, ◌*ℤ◌, Bool, true, false, ◌||◌, ◌&&◌, not, Option, Some, None, IfSome, if◌then◌else◌, option_map, unwrap_or, refl, sym, ap, ◌∙◌, subst, arith}
use Rattle.std.specs.Prelude.{nat_abs, int_lt, int_le}
use Rattle.std.proofs.lemmas.Bool.{cond-false}
use Rattle.std.proofs.lemmas.Bool.Decides.{nat_tests}
use Rattle.std.proofs.lemmas.Int.{ints}
use Rattle.pc_diagram.specs.declared.weight.Ranked.{Ranked}
use Rattle.pc_diagram.specs.Costs.{IsSum, is_cheaper}
use Rattle.pc_diagram.specs.Weight.{plus, IsInReach, IsRanked, IsWeight, is_less_ranked, ranked_number, weight_number, weight_of, lifted, plus_ranked, is_less, with_rank, ranked_of, rank_count, second_count, half_count, no_path}

-- a number cut at 2^52 and at 2^37
quotient : (a r n : ℕ) → n ≡ a * rank_count + r → r < rank_count → n / rank_count ≡ a
quotient a r n e h = omega arith

remainder : (a r n : ℕ) → n ≡ a * rank_count + r → r < rank_count → n % rank_count ≡ r
remainder a r n e h = omega arith

quotient_second : (a r n : ℕ) → n ≡ a * second_count + r → r < second_count → n / second_count ≡ a
quotient_second a r n e h = omega arith

remainder_second : (a r n : ℕ) → n ≡ a * second_count + r → r < second_count → n % second_count ≡ r
remainder_second a r n e h = omega arith

-- a sum with half of the places added to it isn't below zero, and is in the places
lifts : (z : ℤ) → IsSum z → pos (nat_abs (z +ℤ pos half_count)) ≡ z +ℤ pos half_count
lifts z h = grind (arith, ints)

lifts_within : (z : ℤ) → IsSum z → nat_abs (z +ℤ pos half_count) < second_count
lifts_within z h = grind (arith, ints)

lifted-number : (a b r : ℕ) (x y : ℤ) → pos a ≡ x +ℤ pos half_count → pos b ≡ y +ℤ pos half_count → lifted ((x *ℤ pos second_count +ℤ y) *ℤ pos rank_count +ℤ pos r) ≡ (a * second_count + b) * rank_count + r
lifted-number a b r x y e f = grind (arith, ints)

lowered : (a : ℕ) (x : ℤ) → pos a ≡ x +ℤ pos half_count → pos a -ℤ pos half_count ≡ x
lowered a x e = grind (arith, ints)

-- what a lifted number stands for, by its parts
parts : (a b r n : ℕ) (x y : ℤ) → pos a ≡ x +ℤ pos half_count → pos b ≡ y +ℤ pos half_count → b < second_count → r < rank_count → n ≡ (a * second_count + b) * rank_count + r →
    ranked_of n ≡ record { pair = record { first = x; second = y }; rank = r }
parts a b r n x y e f hb hr en =
    let q : n / rank_count ≡ a * second_count + b = quotient (a * second_count + b) r n en hr in
    let q1 : n / rank_count / second_count ≡ a = quotient_second a b (n / rank_count) q hb in
    let q2 : n / rank_count % second_count ≡ b = remainder_second a b (n / rank_count) q hb in
    let q3 : n % rank_count ≡ r = remainder (a * second_count + b) r n en hr in
    ap (λ k. record { pair = record { first = pos k -ℤ pos half_count; second = pos (n / rank_count % second_count) -ℤ pos half_count }; rank = n % rank_count }) q1
    ∙ ap (λ k. record { pair = record { first = pos a -ℤ pos half_count; second = pos k -ℤ pos half_count }; rank = n % rank_count }) q2
    ∙ ap (λ k. record { pair = record { first = pos a -ℤ pos half_count; second = pos b -ℤ pos half_count }; rank = k }) q3
    ∙ ap (λ z. record { pair = record { first = z; second = pos b -ℤ pos half_count }; rank = r }) (lowered a x e)
    ∙ ap (λ z. record { pair = record { first = x; second = z }; rank = r }) (lowered b y f)

-- the number of a path in range is below that of none
below_none : (r : Ranked) → IsRanked r → int_le (pos no_path) (ranked_number r) ≡ false
below_none r h =
    let first = h.first in let second = h.second in let rank = h.rank in
    grind (arith, ints)

-- the number of a path in range stands for it
pub weight_of-number : (r : Ranked) → IsRanked r → weight_of (ranked_number r) ≡ Some r
weight_of-number r h =
    let x = r.pair.first in
    let y = r.pair.second in
    let a = nat_abs (x +ℤ pos half_count) in
    let b = nat_abs (y +ℤ pos half_count) in
    cond-false (int_le (pos no_path) (ranked_number r)) None (Some (ranked_of (lifted (ranked_number r)))) (below_none r h)
    ∙ ap Some (parts a b r.rank (lifted (ranked_number r)) x y (lifts x h.first) (lifts y h.second) (lifts_within y h.second) h.rank (lifted-number a b r.rank x y (lifts x h.first) (lifts y h.second)))

pub is_weight : (r : Ranked) (n : ℤ) → IsRanked r → n ≡ ranked_number r → IsWeight n
is_weight r n h e = subst IsWeight (sym e) (record { one_number = ap weight_number (weight_of-number r h); in_range = rw (weight_of-number r h) h })

-- the order of numbers that are made of two parts each
pair_less : (x y u v : ℤ) → IsSum y → IsSum v → int_lt (x *ℤ pos second_count +ℤ y) (u *ℤ pos second_count +ℤ v) ≡ (int_lt x u || not (int_lt u x) && int_lt y v)
pair_less x y u v h k = grind (arith, ints)

rank_less : (x y : ℤ) (r s : ℕ) → r < rank_count → s < rank_count → int_lt (x *ℤ pos rank_count +ℤ pos r) (y *ℤ pos rank_count +ℤ pos s) ≡ (int_lt x y || not (int_lt y x) && nat_lt r s)
rank_less x y r s h k = grind (arith, ints, nat_tests)

-- the lesser number is that of the lesser path
pub less_number : (a b : Ranked) → IsRanked a → IsRanked b → int_lt (ranked_number a) (ranked_number b) ≡ is_less_ranked a b
less_number a b h k =
    let x = a.pair.first *ℤ pos second_count +ℤ a.pair.second in
    let y = b.pair.first *ℤ pos second_count +ℤ b.pair.second in
    rank_less x y a.rank b.rank h.rank k.rank
    ∙ ap (λ t. t || not (int_lt y x) && nat_lt a.rank b.rank) (pair_less a.pair.first a.pair.second b.pair.first b.pair.second h.second k.second)
    ∙ ap (λ t. is_cheaper a.pair b.pair || not t && nat_lt a.rank b.rank) (pair_less b.pair.first b.pair.second a.pair.first a.pair.second k.second h.second)

spread : (x y u v : ℤ) (r s : ℕ) → ((x *ℤ pos second_count +ℤ y) *ℤ pos rank_count +ℤ pos r) +ℤ ((u *ℤ pos second_count +ℤ v) *ℤ pos rank_count +ℤ pos s) ≡ ((x +ℤ u) *ℤ pos second_count +ℤ (y +ℤ v)) *ℤ pos rank_count +ℤ pos (r + s)
spread x y u v r s = omega (arith, ints)

-- numbers added up are that of what is added up
pub plus_number : (a b : Ranked) → ranked_number a +ℤ ranked_number b ≡ ranked_number (plus_ranked a b)
plus_number a b = spread a.pair.first a.pair.second b.pair.first b.pair.second a.rank b.rank

-- what the number of a path is
pub path_number : (n : ℤ) (r : Ranked) → IsWeight n → weight_of n ≡ Some r → n ≡ ranked_number r
path_number n r h e = sym h.one_number ∙ ap weight_number e

pub path_in_range : (n : ℤ) (r : Ranked) → IsWeight n → weight_of n ≡ Some r → IsRanked r
path_in_range n r h e = subst (λ o. IfSome o IsRanked) e h.in_range

none_number : (n : ℤ) → IsWeight n → weight_of n ≡ None → n ≡ pos no_path
none_number n h e = sym h.one_number ∙ ap weight_number e

-- one number is less than another where its path is
pub less_weight : (m n : ℤ) → IsWeight m → IsWeight n → (a b : Option Ranked) → weight_of m ≡ a → weight_of n ≡ b → int_lt m n ≡ is_less a b
less_weight m n h k None None e f = rw (none_number m h e) (rw (none_number n k f) refl)
less_weight m n h k None (Some b) e f =
    rw (none_number m h e) (rw (path_number n b k f) (above (ranked_number b) (below_none b (path_in_range n b k f))))
  where
    above : (z : ℤ) → int_le (pos no_path) z ≡ false → int_lt (pos no_path) z ≡ false
    above z h = grind (arith, ints)
less_weight m n h k (Some a) None e f =
    rw (none_number n k f) (rw (path_number m a h e) (below (ranked_number a) (below_none a (path_in_range m a h e))))
  where
    below : (z : ℤ) → int_le (pos no_path) z ≡ false → int_lt z (pos no_path) ≡ true
    below z h = grind (arith, ints)
less_weight m n h k (Some a) (Some b) e f =
    rw (path_number m a h e) (rw (path_number n b k f) (less_number a b (path_in_range m a h e) (path_in_range n b k f)))

-- the sum of two numbers of paths
pub plus_weight : (m n : ℤ) → IsWeight m → IsWeight n → (a b : Ranked) → weight_of m ≡ Some a → weight_of n ≡ Some b → m +ℤ n ≡ ranked_number (plus_ranked a b)
plus_weight m n h k a b e f = rw (path_number m a h e) (rw (path_number n b k f) (plus_number a b))

other_rank : (z : ℤ) (r s : ℕ) → ((z *ℤ pos rank_count +ℤ pos r) -ℤ pos r) +ℤ pos s ≡ z *ℤ pos rank_count +ℤ pos s
other_rank z r s = omega (arith, ints)

-- another rank in the number of a path
pub rank_weight : (n : ℤ) (s : ℕ) → IsWeight n → (r : Ranked) → weight_of n ≡ Some r → lifted n % rank_count ≡ r.rank → (n -ℤ pos (lifted n % rank_count)) +ℤ pos s ≡ ranked_number (with_rank s r)
rank_weight n s h r e f =
    ap (λ k. (n -ℤ pos k) +ℤ pos s) f ∙ ap (λ z. (z -ℤ pos r.rank) +ℤ pos s) (path_number n r h e)
    ∙ other_rank (r.pair.first *ℤ pos second_count +ℤ r.pair.second) r.rank s

reach : (r : Ranked) → IsRanked r → IsInReach (ranked_number r)
reach r h =
    let first = h.first in let second = h.second in let rank = h.rank in
    grind (arith, ints)

-- the number of a path is in reach
pub in_reach : (n : ℤ) → IsWeight n → (o : Option Ranked) → weight_of n ≡ o → o ≢ None → IsInReach n
in_reach n h None e some = absurd (some refl)
in_reach n h (Some r) e some = subst IsInReach (sym (path_number n r h e)) (reach r (path_in_range n r h e))

-- what a number stands for that is the sum of two
pub sum_is : (m n k : ℤ) (a b : Option Ranked) → IsWeight m → IsWeight n → weight_of m ≡ a → weight_of n ≡ b → a ≢ None → b ≢ None →
    IfSome a (λ x. IfSome b (λ y. IsRanked (plus_ranked x y))) → k ≡ m +ℤ n → IsWeight k × (weight_of k ≡ plus a b)
sum_is m n k None b h j e f some other range is = absurd (some refl)
sum_is m n k (Some a) None h j e f some other range is = absurd (other refl)
sum_is m n k (Some a) (Some b) h j e f some other range is =
    let same : k ≡ ranked_number (plus_ranked a b) = is ∙ plus_weight m n h j a b e f in
    (is_weight (plus_ranked a b) k range same, ap weight_of same ∙ weight_of-number (plus_ranked a b) range)

-- the rank in the lifted number of a path
rank_of : (n : ℤ) (r : Ranked) → IsWeight n → weight_of n ≡ Some r → lifted n % rank_count ≡ r.rank
rank_of n r h e = by (int_le (pos no_path) n) e
  where
    by : (b : Bool) → (if b then None else Some (ranked_of (lifted n))) ≡ Some r → lifted n % rank_count ≡ r.rank
    by true f = absurd cc
    by false f = ap (λ o. unwrap_or (option_map (λ r. r.rank) o) 0) f

-- what a number stands for that has another rank
pub other_rank_is : (n k : ℤ) (s : ℕ) (o : Option Ranked) → IsWeight n → weight_of n ≡ o → o ≢ None → s < rank_count →
    k ≡ (n -ℤ pos (lifted n % rank_count)) +ℤ pos s → IsWeight k × (weight_of k ≡ option_map (with_rank s) o)
other_rank_is n k s None h e some small is = absurd (some refl)
other_rank_is n k s (Some r) h e some small is =
    let here = path_in_range n r h e in
    let range : IsRanked (with_rank s r) = record { first = here.first; second = here.second; rank = small } in
    let same : k ≡ ranked_number (with_rank s r) = is ∙ rank_weight n s h r e (rank_of n r h e) in
    (is_weight (with_rank s r) k range same, ap weight_of same ∙ weight_of-number (with_rank s r) range)

-- what the number of a path stands for
pub path_is : (n : ℤ) (r : Ranked) (o : Option Ranked) → weight_of n ≡ o → o ≢ None → r ≡ ranked_of (lifted n) → Some r ≡ o
path_is n r o e some is = by (int_le (pos no_path) n) e
  where
    by : (b : Bool) → (if b then None else Some (ranked_of (lifted n))) ≡ o → Some r ≡ o
    by true f = absurd (some (sym f))
    by false f = ap Some is ∙ f
