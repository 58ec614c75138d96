-- The products of a file.
use Rattle.std.specs.Prelude.{ℕ, ◌*◌, List, [], ◌∷◌, ◌++◌, Bool, map, filter, length}
use Rattle.std.specs.List.{list_all}
use Rattle.pc_diagram.specs.Words.{all_words}
use Rattle.pc_file.specs.declared.variable.Variable.{Variable}
use Rattle.pc_file.specs.Limits.{Contents}
use Rattle.pc_file.specs.Rule.{holds}

-- how many values each variable has
abbrev pub value_counts : List Variable → List ℕ
value_counts variables = map (λ variable. length variable.values) variables

-- how many words there are over so many values
abbrev pub word_count : List ℕ → ℕ
word_count [] = 1
word_count (count ∷ counts) = count * word_count counts

-- every rule holds for the word
abbrev pub obeys : Contents → List ℕ → Bool
obeys file word = list_all (holds file.variables word) file.rules

-- the words for which every rule holds, in lexicographic order
abbrev pub products : Contents → List (List ℕ)
products file = filter (obeys file) (all_words (value_counts file.variables))

-- the products that begin with this word and go on over so many values
unfoldable pub products_after : Contents → List ℕ → List ℕ → List (List ℕ)
products_after file word counts = filter (obeys file) (map (λ rest. word ++ rest) (all_words counts))

-- how many words a file has without its rules
abbrev pub words_of : Contents → ℕ
words_of file = word_count (value_counts file.variables)
