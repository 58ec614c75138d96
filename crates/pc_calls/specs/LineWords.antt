-- The words of a line, each with its place: its maximal runs of bytes other than the space.
use Rattle.std.specs.Prelude.{ℕ, ◌+◌, if◌then◌else◌, List, [], ◌∷◌, length, drop}
use Rattle.pc_names.specs.Spaces.{is_space, goes_on}
use Rattle.pc_calls.specs.declared.placed_word.PlacedWord.{PlacedWord}

-- a word, and the place of its first byte, counted from 0 in the line
pub record LineWord : Type 0 where
  pub place : ℕ
  pub bytes : List ℕ

-- a word of a value of the code
abbrev pub word_of : PlacedWord → LineWord
word_of word = record { place = word.place; bytes = word.bytes.now }

-- a byte at a place, and the word at the front, which begins right after it, are one word
abbrev pub joined : ℕ → ℕ → List LineWord → List LineWord
joined place byte [] = []
joined place byte (word ∷ words) = record { place = place; bytes = byte ∷ word.bytes } ∷ words

-- the words of bytes that begin at a place
unfoldable pub words_at : ℕ → List ℕ → List LineWord
words_at place [] = []
words_at place (byte ∷ bytes) =
    if is_space byte then words_at (place + 1) bytes
    else (if goes_on bytes then joined place byte (words_at (place + 1) bytes) else record { place = place; bytes = byte ∷ [] } ∷ words_at (place + 1) bytes)

-- the words of a line from a byte on; none from past its end
abbrev pub words_from : List ℕ → ℕ → List LineWord
words_from line from = words_at from (drop from line)

-- the place right after a word
abbrev pub end_of : LineWord → ℕ
end_of word = word.place + length word.bytes
