-- Reading the words of a line from left to right, up to the first wrong word.
use Rattle.std.specs.Prelude.{ℕ, ◌+◌, Bool, true, false, ◌&&◌, nat_le, if◌then◌else◌, List, [], ◌∷◌, length, Option, Some, None, option_and_then, Result, Ok, Err}
use Rattle.pc_base.specs.Reader.{Reader}
use Rattle.pc_names.specs.Name.{is_name}
use Rattle.pc_names.specs.Number.{unsigned_of}
use Rattle.pc_names.specs.Spelling.{same_spelling}
use Rattle.pc_calls.specs.declared.bad_column.BadColumn.{BadColumn}
use Rattle.pc_calls.specs.LineWords.{LineWord, words_from}
use Rattle.pc_calls.specs.declared.limits.TheConstants.{MOST_LINES}

-- the words that are left to be read, and the length of their line
pub record Rest : Type 0 where
  pub words : List LineWord
  pub line_length : ℕ

-- the words of a line from a byte on
abbrev pub rest_of : List ℕ → ℕ → Rest
rest_of line from = record { words = words_from line from; line_length = length line }

-- the column of a wrong word: the place of its first byte, counted from 1
abbrev pub wrong : LineWord → BadColumn
wrong word = record { column = word.place + 1 }

-- the column where a word is missing: right after the line
abbrev pub missing : ℕ → BadColumn
missing line_length = record { column = line_length + 1 }

-- Gives a value and the words that are left after it, or the column of the first word that is wrong or missing.
abbrev pub WordReader : Type 0 → Type 0
WordReader = Reader Rest BadColumn

-- what a word says, if it says something
abbrev pub said : {A : Type 0} → Option A → LineWord → Rest → Result (A × Rest) BadColumn
said (Some value) word rest = Ok (value, rest)
said None word rest = Err (wrong word)

abbrev pub first_of : {A : Type 0} → (List ℕ → Option A) → List LineWord → ℕ → Result (A × Rest) BadColumn
first_of kind [] line_length = Err (missing line_length)
first_of kind (word ∷ words) line_length = said (kind word.bytes) word (record { words = words; line_length = line_length })

-- The next word has to be there and to be of a kind, which says what a word of it means.
unfoldable pub word_of_kind : {A : Type 0} → (List ℕ → Option A) → WordReader A
word_of_kind kind rest = first_of kind rest.words rest.line_length

-- no word may come next
abbrev pub none_of : List LineWord → Rest → Result (Unit {0} × Rest) BadColumn
none_of [] rest = Ok (tt, rest)
none_of (word ∷ words) rest = Err (wrong word)

unfoldable pub end : WordReader (Unit {0})
end rest = none_of rest.words rest

-- this word may come next, or none
abbrev pub this_or_none : List ℕ → List LineWord → Rest → Result (Bool × Rest) BadColumn
this_or_none spelling [] rest = Ok (false, rest)
this_or_none spelling (word ∷ words) rest = if same_spelling word.bytes spelling then Ok (true, record rest { words = words }) else Err (wrong word)

unfoldable pub flag : List ℕ → WordReader Bool
flag spelling rest = this_or_none spelling rest.words rest

-- ---- kinds of words

-- a number of lines, from 1 on
abbrev pub line_count_of : List ℕ → Option ℕ
line_count_of bytes = option_and_then (λ n. if nat_le 1 n && nat_le n MOST_LINES then Some n else None) (unsigned_of bytes)

-- a name, which is its own spelling
abbrev pub name_of : List ℕ → Option (List ℕ)
name_of bytes = if is_name bytes then Some bytes else None
