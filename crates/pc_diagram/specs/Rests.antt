-- What words of a set go on with after a beginning, and the size of a set.
use Rattle.std.specs.Prelude.{ℕ, ◌+◌, nat_eq, nat_lt, Bool, not, List, [], ◌∷◌, ◌++◌, length, map, filter, take, drop, sum}
use Rattle.std.specs.Cmp.Lexicographic.{pointwise}
use Rattle.std.specs.List.{range_with_len}
use Rattle.std.specs.Set.{distinct_count}
use Rattle.pc_diagram.specs.Words.{all_words}

-- the rest of a beginning: the words over the domains left that lead from it into the set, in order
abbrev pub rest : (List ℕ → Bool) → List ℕ → List ℕ → List (List ℕ)
rest set domains beginning = filter (λ word. set (beginning ++ word)) (all_words domains)

-- some words are left
abbrev pub has_words : List (List ℕ) → Bool
has_words words = nat_lt 0 (length words)

-- how many different non-empty rests the beginnings over the first domains have
abbrev pub rest_count : (List ℕ → Bool) → List ℕ → List ℕ → ℕ
rest_count set first left = distinct_count (pointwise (pointwise nat_eq)) (filter has_words (map (rest set left) (all_words first)))

-- the size of a set of words over the domains: how many different non-empty rests its beginnings of each length have, from
-- the empty one to whole words
abbrev pub size : List ℕ → (List ℕ → Bool) → ℕ
size domains set = sum (map (λ count. rest_count set (take count domains) (drop count domains)) (range_with_len 0 (length domains + 1)))

-- two lists of words are the same
abbrev pub same_words : List (List ℕ) → List (List ℕ) → Bool
same_words = pointwise (pointwise nat_eq)

-- the different ones of some lists of words, each where it stands first
abbrev pub different : List (List (List ℕ)) → List (List (List ℕ))
different [] = []
different (words ∷ others) = words ∷ filter (λ other. not (same_words words other)) (different others)

-- the classes of the beginnings over the first domains: their different non-empty rests
abbrev pub classes : (List ℕ → Bool) → List ℕ → List ℕ → List (List (List ℕ))
classes set first left = different (filter has_words (map (rest set left) (all_words first)))
