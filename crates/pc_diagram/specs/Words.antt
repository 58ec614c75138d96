-- Words over given numbers of values.
use Rattle.std.specs.Prelude.{ℕ, nat_lt, Bool, true, false, ◌&&◌, List, [], ◌∷◌, map}
use Rattle.std.specs.List.{flat_map, range_with_len}

-- a word has one value of each variable, within its number of values
abbrev pub is_word : List ℕ → List ℕ → Bool
is_word [] [] = true
is_word [] (value ∷ word) = false
is_word (domain ∷ domains) [] = false
is_word (domain ∷ domains) (value ∷ word) = nat_lt value domain && is_word domains word

-- all words over so many values, in lexicographic order
abbrev pub all_words : List ℕ → List (List ℕ)
all_words [] = [] ∷ []
all_words (domain ∷ domains) = flat_map (λ value. map (λ word. value ∷ word) (all_words domains)) (range_with_len 0 domain)
