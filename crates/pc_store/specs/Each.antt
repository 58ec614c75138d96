-- The numbers of a list but 0, each once.
use Rattle.std.specs.Prelude.{◌≡◌, ℕ, nat_eq, ◌==◌, not, ◌&&◌, List}
use Rattle.std.specs.List.{list_any, IsDistinct}

-- a list names each number of another but 0, once
pub record NamesEach (numbers kept : List ℕ) : Type 0 where
  pub once : IsDistinct nat_eq kept
  pub each : (q : ℕ) → list_any (nat_eq q) kept ≡ (not (q == 0) && list_any (nat_eq q) numbers)
