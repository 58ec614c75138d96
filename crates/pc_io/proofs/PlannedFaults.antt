-- How the number of calls that failed grows.
use Rattle.std.proofs.Common.{◌≡◌, ℕ, ◌+◌, List, ◌==◌, if◌then◌else◌, add-one, add_comm}
use Rattle.std.specs.List.{list_any}
use Rattle.pc_io.specs.Calls.{failed_among}

-- one more call fails exactly where its number is in the list
pub failed_among-more : (failing : List ℕ) (n : ℕ) → failed_among failing (n + 1) ≡ failed_among failing n + (if list_any (λ k. k == n) failing then 1 else 0)
unfolding failed_among
failed_among-more failing n = rw add-one (add_comm _ _)
