-- The words of a line: its maximal runs of bytes other than the space.
use Rattle.std.specs.Prelude.{ℕ, not, if◌then◌else◌, List, [], ◌∷◌, drop}
use Rattle.std.specs.List.{onto_first, position_or_len, before_first}
use Rattle.pc_names.specs.Spaces.{is_space, goes_on}

-- all words, in order
unfoldable pub words : List ℕ → List (List ℕ)
words [] = []
words (byte ∷ bytes) = if is_space byte then words bytes else (if goes_on bytes then onto_first byte (words bytes) else (byte ∷ []) ∷ words bytes)

-- the bytes from the first word on
unfoldable pub from_word : List ℕ → List ℕ
from_word line = drop (position_or_len (λ byte. not (is_space byte)) line) line

-- the first word, or nothing, and the bytes after it
unfoldable pub first_word : List ℕ → List ℕ
first_word line = before_first is_space (from_word line)

unfoldable pub after_word : List ℕ → List ℕ
after_word line = drop (position_or_len is_space (from_word line)) (from_word line)
