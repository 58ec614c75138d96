-- Weights: what is kept of a path, as one number, so that the lesser of two is told by one comparison.
use Rattle.std.specs.Prelude.{◌≡◌, ℕ, ◌/◌, ◌%◌, ◌<◌, ◌+◌, nat_lt, ℤ, pos, ◌+ℤ◌, ◌-ℤ◌, ◌*ℤ◌, ◌≤ℤ◌, ◌<ℤ◌, neg_ℤ, nat_abs, int_le, Bool, true, false, ◌&&◌, ◌||◌, not, if◌then◌else◌, Option, Some, None, IfSome}
use Rattle.pc_diagram.specs.declared.costs.CostPair.{CostPair}
use Rattle.pc_diagram.specs.declared.weight.Ranked.{Ranked}
use Rattle.pc_diagram.specs.Costs.{IsSum, is_cheaper}

-- how many ranks there are, how many second costs a number has place for, half of that, and the number of no path: 2^52,
-- 2^37, 2^36, 2^126
abbrev pub rank_count : ℕ
rank_count = 4503599627370496

abbrev pub second_count : ℕ
second_count = 137438953472

abbrev pub half_count : ℕ
half_count = 68719476736

abbrev pub no_path : ℕ
no_path = 85070591730234615865843651857942052864

-- the costs are sums over at most 64 variables, and the rank is below 2^52
pub record IsRanked (ranked : Ranked) : Type 0 where
  pub first : IsSum ranked.pair.first
  pub second : IsSum ranked.pair.second
  pub rank : ranked.rank < rank_count

-- less by first cost, or equal in that and less by second cost, or equal in both and less by rank
abbrev pub is_less_ranked : Ranked → Ranked → Bool
is_less_ranked a b = is_cheaper a.pair b.pair || not (is_cheaper b.pair a.pair) && nat_lt a.rank b.rank

-- any path is less than none
abbrev pub is_less : Option Ranked → Option Ranked → Bool
is_less None b = false
is_less (Some a) None = true
is_less (Some a) (Some b) = is_less_ranked a b

-- two pairs added up
abbrev pub plus_pair : CostPair → CostPair → CostPair
plus_pair a b = record { first = a.first +ℤ b.first; second = a.second +ℤ b.second }

-- costs and ranks added up
abbrev pub plus_ranked : Ranked → Ranked → Ranked
plus_ranked a b = record { pair = plus_pair a.pair b.pair; rank = a.rank + b.rank }

-- the same of what may be no path: with no path on either side there is none
abbrev pub plus : Option Ranked → Option Ranked → Option Ranked
plus None b = None
plus (Some a) None = None
plus (Some a) (Some b) = Some (plus_ranked a b)

-- another rank in place of that of a path
abbrev pub with_rank : ℕ → Ranked → Ranked
with_rank rank r = record { pair = r.pair; rank = rank }

-- a path as one number
abbrev pub ranked_number : Ranked → ℤ
ranked_number r = (r.pair.first *ℤ pos second_count +ℤ r.pair.second) *ℤ pos rank_count +ℤ pos r.rank

-- a path or none as one number
abbrev pub weight_number : Option Ranked → ℤ
weight_number None = pos no_path
weight_number (Some r) = ranked_number r

-- the number with nothing below zero: half of the places for either cost added to it
abbrev pub lifted : ℤ → ℕ
lifted number = nat_abs (number +ℤ (pos half_count *ℤ pos second_count +ℤ pos half_count) *ℤ pos rank_count)

-- the path that a lifted number stands for
abbrev pub ranked_of : ℕ → Ranked
ranked_of n = record {
  pair = record {
    first = pos (n / rank_count / second_count) -ℤ pos half_count;
    second = pos (n / rank_count % second_count) -ℤ pos half_count;
  };
  rank = n % rank_count;
}

-- the path or none that a number stands for
abbrev pub weight_of : ℤ → Option Ranked
weight_of number = if int_le (pos no_path) number then None else Some (ranked_of (lifted number))

-- a number that leaves nothing below zero once it is lifted, and is below that of no path
abbrev pub IsInReach : ℤ → Type 0
IsInReach number = (neg_ℤ (pos 42535295865426792942743170997695807488) ≤ℤ number) × (number <ℤ pos no_path)

-- a number that stands for no path or for one in range, and no other one does
pub record IsWeight (number : ℤ) : Type 0 where
  pub one_number : weight_number (weight_of number) ≡ number
  pub in_range : IfSome (weight_of number) IsRanked
