-- Sameness of names.
use Rattle.std.specs.Prelude.{ℕ, ◌==◌, Bool, List}
use Rattle.std.specs.Cmp.Lexicographic.{pointwise}

-- two names are the same
abbrev pub same_spelling : List ℕ → List ℕ → Bool
same_spelling = pointwise ◌==◌
