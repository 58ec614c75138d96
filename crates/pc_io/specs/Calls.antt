-- Calls of an end in memory, some of which are to fail.
use Rattle.std.specs.Prelude.{ℕ, zero, suc, ◌+◌, ◌-◌, ◌^◌, min, Bool, ◌&&◌, List, ◌==◌, nat_lt, if◌then◌else◌}
use Rattle.std.specs.List.{list_any}

-- the numbers of the calls that fail, counted from 0, and how many were made, which stops at 2 ^ 64 - 1
pub record Calls : Type 0 where
  pub failing : List ℕ
  pub made : ℕ

-- of the first so many calls, how many are among those that fail
unfoldable pub failed_among : List ℕ → ℕ → ℕ
failed_among failing zero = 0
failed_among failing (suc n) = (if list_any (λ k. k == n) failing then 1 else 0) + failed_among failing n

-- the number of calls that failed
abbrev pub failed_calls : Calls → ℕ
failed_calls calls = failed_among calls.failing calls.made

-- the next call is among those that fail; one after 2 ^ 64 - 1 others has no number
abbrev pub fails_next : Calls → Bool
fails_next calls = list_any (λ k. k == calls.made) calls.failing && nat_lt calls.made (2 ^ 64 - 1)

-- one more call was made
abbrev pub after_call : Calls → Calls
after_call calls = record calls { made = min (calls.made + 1) (2 ^ 64 - 1) }
