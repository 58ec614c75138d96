-- Counts of the faults of an end of the outside.
use Rattle.std.specs.Prelude.{ℕ, ◌+◌, ◌-◌, ◌^◌, ◌≤◌, min}

-- The count rose in a call, or it stood at 2 ^ 64 - 1 already, the last value of a counter of 64 bits.
abbrev pub Rose : ℕ → ℕ → Type 0
Rose before now = min (before + 1) (2 ^ 64 - 1) ≤ now
