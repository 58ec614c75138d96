-- What a call on one side of an end leaves of the end's other side.
use Rattle.std.specs.Prelude.{ℕ, List, Option, None}

-- all the bytes that the end gives, the bytes of its other side, each where told, and the faults of that side
pub record Aside : Type 0 where
  pub sent : Option (List ℕ)
  pub other : Option (List ℕ)
  pub other_faults : ℕ

-- an end of one side alone has nothing there
abbrev pub no_aside : Aside
no_aside = record { sent = None; other = None; other_faults = 0 }
