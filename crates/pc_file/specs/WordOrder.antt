-- The order of words.
use Rattle.std.specs.Prelude.{ℕ, nat_lt, ◌==◌, Bool, false, ◌&&◌, ◌||◌, List, [], ◌∷◌}

-- a word comes before another: at the first variable at which they differ, its value is the lesser
abbrev pub is_before : List ℕ → List ℕ → Bool
is_before [] other = false
is_before (value ∷ word) [] = false
is_before (value ∷ word) (other_value ∷ other) = nat_lt value other_value || ((value == other_value) && is_before word other)
