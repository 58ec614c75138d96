-- The front of a list of pairs of costs.
use Rattle.std.specs.Prelude.{◌≡◌, ◌<ℤ◌, List, [], ◌∷◌, All, Contains, Bool, true, ◌&&◌, not, if◌then◌else◌, filter, int_le}
use Rattle.std.specs.List.{AllByRecursion, list_any}
use Rattle.pc_diagram.specs.declared.costs.CostPair.{CostPair}
use Rattle.pc_diagram.specs.Costs.{is_cheaper}

-- a pair is below another or equal to it, in both parts
abbrev pub is_at_most : CostPair → CostPair → Bool
is_at_most pair other = int_le pair.first other.first && int_le pair.second other.second

-- some other pair of a list is below or equal to this one, in both parts
abbrev pub is_beaten : List CostPair → CostPair → Bool
is_beaten pairs pair = list_any (λ other. is_at_most other pair && not (is_at_most pair other)) pairs

-- pairs in order with one more, unless it is among them
abbrev pub with_pair : CostPair → List CostPair → List CostPair
with_pair pair [] = pair ∷ []
with_pair pair (other ∷ pairs) =
    if is_cheaper pair other then pair ∷ other ∷ pairs
    else (if is_cheaper other pair then other ∷ with_pair pair pairs else other ∷ pairs)

-- the pairs of a list by first cost, then by second cost, equal pairs once
abbrev pub in_order : List CostPair → List CostPair
in_order [] = []
in_order (pair ∷ pairs) = with_pair pair (in_order pairs)

-- the front of a list of pairs: those that no other pair is below or equal to in both parts, equal pairs once, by first
-- cost
abbrev pub front : List CostPair → List CostPair
front pairs = filter (λ pair. not (is_beaten pairs pair)) (in_order pairs)

-- each pair has a greater first cost than those before it, and a smaller second cost
abbrev pub Falls : List CostPair → Type 0
Falls [] = Unit {0}
Falls (pair ∷ pairs) =
    AllByRecursion (λ later. (pair.first <ℤ later.first) × (later.second <ℤ pair.second)) pairs × Falls pairs

-- some pair of a list is below this one or equal to it, in both parts
abbrev pub IsReached : List CostPair → CostPair → Type 0
IsReached pairs pair = (other : CostPair) × Contains pairs other × (is_at_most other pair ≡ true)

-- what a front is: it falls, its pairs are among those of the list, and each of these is reached
pub record IsFront (pairs kept : List CostPair) : Type 0 where
  pub falls : Falls kept
  pub among : All (Contains pairs) kept
  pub reached : All (IsReached kept) pairs
