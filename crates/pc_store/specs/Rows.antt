-- Rows of numbers, none twice.
use Rattle.std.specs.Prelude.{ℕ, nat_eq, List, [], ◌∷◌, ◌++◌, if◌then◌else◌}
use Rattle.std.specs.Cmp.Lexicographic.{pointwise}
use Rattle.std.specs.List.{list_any}

-- the rows with one more at the end, unless it is there
abbrev pub with_row : List (List ℕ) → List ℕ → List (List ℕ)
with_row rows row = if list_any (pointwise nat_eq row) rows then rows else rows ++ row ∷ []
