-- What values and words cost.
use Rattle.std.specs.Prelude.{ℕ, ◌≤◌, ℤ, pos, neg_ℤ, ◌+ℤ◌, ◌≤ℤ◌, List, [], ◌∷◌, length, slice_get, Option, Some, None, unwrap_or, All, Bool, ◌||◌, ◌&&◌, not, int_lt}
use Rattle.pc_diagram.specs.declared.costs.CostPair.{CostPair}
use Rattle.pc_diagram.specs.declared.limits.TheConstants.{MOST_VARIABLES}
use Rattle.pc_diagram.specs.declared.which.Which.{Which}
use Rattle.pc_diagram.specs.declared.which.Which.TheVariants.{First, Second}

-- the first or the second part of a pair
abbrev pub part : Which → CostPair → ℤ
part First pair = pair.first
part Second pair = pair.second

-- nothing, in both parts
abbrev pub no_cost : CostPair
no_cost = record { first = pos 0; second = pos 0 }

-- the pair of a value in the row of its variable; nothing where the row has no such value
abbrev pub pair_at : List CostPair → ℕ → CostPair
pair_at row value = unwrap_or (slice_get row value) no_cost

-- one part of the pair of the value that is taken, and nothing where none is
abbrev pub part_taken : List CostPair → Which → Option ℕ → ℤ
part_taken row which None = pos 0
part_taken row which (Some value) = part which (pair_at row value)

-- the cost of a word: the sum, over the variables, of one part of the pair of the value taken
abbrev pub cost : List (List CostPair) → Which → List ℕ → ℤ
cost [] which word = pos 0
cost (row ∷ rows) which [] = pos 0
cost (row ∷ rows) which (value ∷ values) = part which (pair_at row value) +ℤ cost rows which values

-- the two costs of a word
abbrev pub cost_pair : List (List CostPair) → List ℕ → CostPair
cost_pair costs word = record { first = cost costs First word; second = cost costs Second word }

-- a pair is cheaper than another: less by first cost, or equal in that and less by second cost
abbrev pub is_cheaper : CostPair → CostPair → Bool
is_cheaper a b = int_lt a.first b.first || not (int_lt b.first a.first) && int_lt a.second b.second

-- a cost of one value, from -1,000,000,000 to 1,000,000,000
abbrev pub IsPrice : ℤ → Type 0
IsPrice z = (neg_ℤ (pos 1000000000) ≤ℤ z) × (z ≤ℤ pos 1000000000)

-- two of them
pub record IsPricePair (pair : CostPair) : Type 0 where
  pub in_first : IsPrice pair.first
  pub in_second : IsPrice pair.second

-- the costs of at most 64 variables, each part of each pair in that range, so that every sum fits 64 bits
pub record IsPriced (costs : List (List CostPair)) : Type 0 where
  pub few : length costs ≤ MOST_VARIABLES
  pub in_range : All (All IsPricePair) costs

-- a sum of such costs, from -64,000,000,000 to 64,000,000,000
abbrev pub IsSum : ℤ → Type 0
IsSum z = (neg_ℤ (pos 64000000000) ≤ℤ z) × (z ≤ℤ pos 64000000000)
