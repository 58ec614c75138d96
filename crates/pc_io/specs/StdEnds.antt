-- What contracts see of the ends over std.
use Rattle.std.specs.Prelude.{ℕ, ◌≤◌, List, length, take, Option}
use Rattle.std.specs.Io.KnownBytes.{Appends}

-- the bytes that a reader has left, where it tells them, and the number of its faults
pub record Inlet : Type 0 where
  pub remaining : Option (List ℕ)
  pub faults : ℕ

-- the bytes that a writer holds, where it tells them, and the number of its faults
pub record Outlet : Type 0 where
  pub contents : Option (List ℕ)
  pub faults : ℕ

-- what the writer holds grew by bytes from the front of b, or stayed
abbrev pub AppendsPart : Option (List ℕ) → Option (List ℕ) → List ℕ → Type 0
AppendsPart before after b = (n : ℕ) × (n ≤ length b) × Appends before after (take n b)
