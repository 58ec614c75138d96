-- The lines of bytes. A line feed ends a line, and what follows the last line feed is a line if it isn't empty.
use Rattle.std.specs.Prelude.{◌≡◌, ℕ, ◌==◌, Bool, false, List, [], ◌∷◌, ◌++◌, length, take, drop, nat_lt, if◌then◌else◌}
use Rattle.std.specs.List.{list_any, onto_first}

-- a byte is a line feed
abbrev pub is_feed : ℕ → Bool
is_feed b = b == 10

-- no byte is a line feed
abbrev pub HasNoFeed : List ℕ → Type 0
HasNoFeed b = list_any is_feed b ≡ false

-- the bytes before the first line feed, or all
unfoldable pub first_line : List ℕ → List ℕ
first_line [] = []
first_line (x ∷ xs) = if is_feed x then [] else x ∷ first_line xs

-- the bytes from the first line feed on, or none
unfoldable pub from_feed : List ℕ → List ℕ
from_feed [] = []
from_feed (x ∷ xs) = if is_feed x then x ∷ xs else from_feed xs

-- the first line with its line feed, if it has one
abbrev pub first_whole : List ℕ → List ℕ
first_whole b = first_line b ++ take 1 (from_feed b)

-- what comes after the first line and its line feed
abbrev pub after_line : List ℕ → List ℕ
after_line b = drop 1 (from_feed b)

-- all lines
unfoldable pub lines : List ℕ → List (List ℕ)
lines [] = []
lines (x ∷ xs) = if is_feed x then [] ∷ lines xs else onto_first x (lines xs)

-- more than `line_limit` bytes come before the first line feed, the end of b, or the end of its first `left` bytes
abbrev pub is_long : ℕ → ℕ → List ℕ → Bool
is_long line_limit left b = nat_lt line_limit (length (first_line (take left b)))

-- the first line with its line feed or end doesn't lie in the first `left` bytes of b
abbrev pub is_over : ℕ → List ℕ → Bool
is_over left b = nat_lt left (length (first_whole b))
