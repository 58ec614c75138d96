-- Bytes that were read and not yet given.
use Rattle.std.specs.Prelude.{ℕ, Bool, List, ◌++◌}

-- those of the line that is being read, those that come after them, and whether the source has given its end
pub record Held : Type 0 where
  pub part : List ℕ
  pub ahead : List ℕ
  pub ended : Bool

-- all bytes that are held
abbrev pub held : Held → List ℕ
held p = p.part ++ p.ahead
