use Rattle.std.proofs.Common.{◌≡◌, ℕ, ◌<◌, false, get_or}
use Rattle.pc_names.specs.Spaces.{is_space}
use Rattle.pc_names.proofs.spaces.space_place.Given as goal

abbrev pub invariant-loop-place : goal.invariant-loop-place
invariant-loop-place l = (k : ℕ) → k < l.place → is_space (get_or l.bytes k 0) ≡ false
