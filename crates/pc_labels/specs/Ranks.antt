-- Ranks counted anew.
use Rattle.std.specs.Prelude.{◌≡◌, ℕ, ◌<◌, ◌≤◌, List, length, slice_index, Contains, Option, Some, None, IfSome}
use Rattle.pc_diagram.specs.declared.weight.Ranked.{Ranked}
use Rattle.pc_diagram.specs.Weight.{with_rank}

-- no number is less than one before it
abbrev pub Ascend : List ℕ → Type 0
Ascend ranks = (i j : ℕ) → i ≤ j → j < length ranks → slice_index ranks i ≤ slice_index ranks j

-- the rank of a path, and 0 where there is none
abbrev pub rank_of : Option Ranked → ℕ
rank_of None = 0
rank_of (Some r) = r.rank

-- a path's rank is one of these
abbrev pub IsAmong : List ℕ → Option Ranked → Type 0
IsAmong ranks weight = IfSome weight (λ r. Contains ranks r.rank)

-- so many of the ranks are less than one, and they are the first
pub record IsPlaceOf (ranks : List ℕ) (rank place : ℕ) : Type 0 where
  pub within : place ≤ length ranks
  pub less : (i : ℕ) → i < place → slice_index ranks i < rank
  pub more : (i : ℕ) → place ≤ i → i < length ranks → rank ≤ slice_index ranks i

-- no path, or a path whose rank is its place among ranks
pub record IsRankedAnew (ranks : List ℕ) (old new : Option Ranked) : Type 0 where
  pub none : old ≡ None → new ≡ None
  pub some : (r : Ranked) → old ≡ Some r → (place : ℕ) × IsPlaceOf ranks r.rank place × (new ≡ Some (with_rank place r))
