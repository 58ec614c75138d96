-- The best of a list of words.
use Rattle.std.specs.Prelude.{◌≡◌, ℕ, List, [], ◌∷◌, ◌++◌, Option, Some, None, Bool, true, false, if◌then◌else◌, All}
use Rattle.pc_diagram.specs.declared.costs.CostPair.{CostPair}
use Rattle.pc_diagram.specs.Costs.{cost_pair, is_cheaper}

-- the earlier of two, unless the later one beats it; the other where one is missing
abbrev pub earlier_unless : {X : Type 0} → (X → X → Bool) → Option X → Option X → Option X
earlier_unless beats None later = later
earlier_unless beats (Some x) None = Some x
earlier_unless beats (Some x) (Some later) = if beats later x then Some later else Some x

-- the first of the members that none beats
abbrev pub first_best : {X : Type 0} → (X → X → Bool) → List X → Option X
first_best beats [] = None
first_best beats (x ∷ xs) = earlier_unless beats (Some x) (first_best beats xs)

-- one word is cheaper than another: less by first cost, or equal in that and less by second cost
abbrev pub is_cheaper_word : List (List CostPair) → List ℕ → List ℕ → Bool
is_cheaper_word costs word other = is_cheaper (cost_pair costs word) (cost_pair costs other)

-- the member that is least by first cost, then by second cost, then by place
abbrev pub best : List (List CostPair) → List (List ℕ) → Option (List ℕ)
best costs words = first_best (is_cheaper_word costs) words

-- a member that beats each before it, and that none after it beats
pub record IsFirstUnbeaten {X : Type 0} (beats : X → X → Bool) (xs : List X) (x : X) : Type 0 where
  pub before : List X
  pub after : List X
  pub stands : xs ≡ before ++ x ∷ after
  pub beats_before : All (λ other. beats x other ≡ true) before
  pub unbeaten_after : All (λ other. beats other x ≡ false) after
