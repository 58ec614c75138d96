-- The kinds of words that each command takes, and which word of a line is the first wrong one.
use Rattle.std.specs.Prelude.{ℕ, Bool, true, false, is_some, if◌then◌else◌, List, [], ◌∷◌, length, codes, Option, Some, None}
use Rattle.pc_names.specs.Name.{is_name}
use Rattle.pc_names.specs.Number.{int_of}
use Rattle.pc_names.specs.Spelling.{same_spelling}
use Rattle.pc_calls.specs.declared.bad_column.BadColumn.{BadColumn}
use Rattle.pc_calls.specs.declared.command.Command.{Command}
use Rattle.pc_calls.specs.declared.command.Command.TheVariants.{Open, Show, Choose, Retract, Bound, Unbound, Rebase, Close, Publish, Reclaim, Versions, Leave}
use Rattle.pc_calls.specs.LineWords.{LineWord, words_from}
use Rattle.pc_names.specs.Number.{unsigned_of}
use Rattle.pc_calls.specs.CommandReader.{wrong, missing, line_count_of}
use Rattle.pc_calls.specs.CommandLine.{command_of}

-- a number that isn't negative, any number, a number of lines from 1 to 8,192, a name, or the word `dropping`, which may be left out
pub data WordKind : Type 0 where
  unsigned : WordKind
  number : WordKind
  line_count : WordKind
  name : WordKind
  dropping : WordKind

abbrev pub is_of_kind : WordKind → List ℕ → Bool
is_of_kind unsigned word = is_some (unsigned_of word)
is_of_kind number word = is_some (int_of word)
is_of_kind line_count word = is_some (line_count_of word)
is_of_kind name word = is_name word
is_of_kind dropping word = same_spelling word (codes "dropping")

-- the words that follow each command, by their kinds
abbrev pub kinds : Command → List WordKind
kinds Open = []
kinds Show = unsigned ∷ []
kinds Choose = unsigned ∷ name ∷ name ∷ []
kinds Retract = unsigned ∷ name ∷ []
kinds Bound = unsigned ∷ name ∷ number ∷ []
kinds Unbound = unsigned ∷ name ∷ []
kinds Rebase = unsigned ∷ unsigned ∷ dropping ∷ []
kinds Close = unsigned ∷ []
kinds Publish = unsigned ∷ line_count ∷ []
kinds Reclaim = unsigned ∷ []
kinds Versions = []
kinds Leave = []

-- the line may end where words of these kinds could follow
abbrev pub may_end : List WordKind → Bool
may_end [] = true
may_end (dropping ∷ kinds) = may_end kinds
may_end (kind ∷ kinds) = false

-- The column of the first word that isn't of its kind or is one too many; of the end of the line, whose length is given, where a word is missing.
abbrev pub first_wrong : ℕ → List WordKind → List LineWord → Option BadColumn
first_wrong line_length kinds [] = if may_end kinds then None else Some (missing line_length)
first_wrong line_length [] (word ∷ words) = Some (wrong word)
first_wrong line_length (kind ∷ kinds) (word ∷ words) = if is_of_kind kind word.bytes then first_wrong line_length kinds words else Some (wrong word)

-- the same of the words after the first, which has to be a command
abbrev pub wrong_after : ℕ → LineWord → Option Command → List LineWord → Option BadColumn
wrong_after line_length first None words = Some (wrong first)
wrong_after line_length first (Some command) words = first_wrong line_length (kinds command) words

abbrev pub wrong_among : ℕ → List LineWord → Option BadColumn
wrong_among line_length [] = Some (missing line_length)
wrong_among line_length (first ∷ words) = wrong_after line_length first (command_of first.bytes) words

-- the column at which a line, read from a byte on, goes wrong; None where it says a call
abbrev pub bad_column : List ℕ → ℕ → Option BadColumn
bad_column line from = wrong_among (length line) (words_from line from)
