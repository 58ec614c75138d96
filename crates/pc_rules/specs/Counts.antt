-- The number of `atmost`.
use Rattle.std.specs.Prelude.{ℕ, zero, suc, ◌+◌, nat_le, ℤ, pos, negsuc, if◌then◌else◌, List, [], ◌∷◌, Option, Some, None, decimal, position}
use Rattle.pc_file.specs.declared.sizes.TheConstants.{MOST_MEMBERS}
use Rattle.pc_names.specs.Spelling.{same_spelling}

-- the spellings of so many numbers, from the second number on
abbrev pub spellings : ℕ → ℕ → List (List ℕ)
spellings zero first = []
spellings (suc count) first = decimal first ∷ spellings count (first + 1)

-- the number that a word spells in canonical decimal, where it is from 0 to the most members of an `atmost`
unfoldable pub count_of : List ℕ → Option ℕ
count_of word = position (same_spelling word) (spellings (MOST_MEMBERS + 1) 0)

-- such a number
abbrev pub small_number : ℤ → Option ℕ
small_number (pos n) = if nat_le n MOST_MEMBERS then Some n else None
small_number (negsuc n) = None
