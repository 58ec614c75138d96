-- Bytes that an end may tell or not.
use Rattle.std.specs.Prelude.{◌≡◌, ℕ, ◌<◌, List, length, take, Option}
use Rattle.std.specs.Io.KnownBytes.{append_known}

-- the told bytes grew by a proper prefix of b
abbrev pub GrewByPart : List ℕ → Option (List ℕ) → Option (List ℕ) → Type 0
GrewByPart b before after = (n : ℕ) × (n < length b) × (after ≡ append_known before (take n b))
