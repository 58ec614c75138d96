-- The commands, the words that follow each, and the call that they say.
use Rattle.std.specs.Prelude.{ℕ, ℤ, if◌then◌else◌, List, codes, Option, Some, None, Result, Ok, Err}
use Rattle.pc_names.specs.Number.{int_of, unsigned_of}
use Rattle.pc_names.specs.Spelling.{same_spelling}
use Rattle.pc_calls.specs.declared.bad_column.BadColumn.{BadColumn}
use Rattle.pc_calls.specs.declared.call.Call.TheVariants as call
use Rattle.pc_calls.specs.declared.command.Command.{Command}
use Rattle.pc_calls.specs.declared.command.Command.TheVariants as command
use Rattle.pc_calls.specs.declared.line_call.LineCall.{LineCall}
use Rattle.pc_calls.specs.declared.line_call.LineCall.TheVariants.{Whole, PublishHead}
use Rattle.pc_base.specs.Reader.{◌>>=◌, ◌>>◌, pure}
use Rattle.pc_calls.specs.CommandReader.{Rest, rest_of, WordReader, word_of_kind, end, flag, line_count_of, name_of}

-- the command that a word is
unfoldable pub command_of : List ℕ → Option Command
command_of word =
    if same_spelling word (codes "open") then Some command.Open
    else (if same_spelling word (codes "show") then Some command.Show
    else (if same_spelling word (codes "choose") then Some command.Choose
    else (if same_spelling word (codes "retract") then Some command.Retract
    else (if same_spelling word (codes "bound") then Some command.Bound
    else (if same_spelling word (codes "unbound") then Some command.Unbound
    else (if same_spelling word (codes "rebase") then Some command.Rebase
    else (if same_spelling word (codes "close") then Some command.Close
    else (if same_spelling word (codes "publish") then Some command.Publish
    else (if same_spelling word (codes "reclaim") then Some command.Reclaim
    else (if same_spelling word (codes "versions") then Some command.Versions
    else (if same_spelling word (codes "leave") then Some command.Leave else None)))))))))))

abbrev pub unsigned : WordReader ℕ
unsigned = word_of_kind unsigned_of

abbrev pub number : WordReader ℤ
number = word_of_kind int_of

abbrev pub name : WordReader (List ℕ)
name = word_of_kind name_of

abbrev pub line_count : WordReader ℕ
line_count = word_of_kind line_count_of

-- the words that follow a command, and what they say with it
unfoldable pub arguments : Command → WordReader LineCall
arguments command.Open = pure (Whole call.Open)
arguments command.Show = do
  session ← unsigned
  pure (Whole (call.Show session))
arguments command.Choose = do
  session ← unsigned
  variable ← name
  value ← name
  pure (Whole (call.Choose session variable value))
arguments command.Retract = do
  session ← unsigned
  variable ← name
  pure (Whole (call.Retract session variable))
arguments command.Bound = do
  session ← unsigned
  cost ← name
  most ← number
  pure (Whole (call.Bound session cost most))
arguments command.Unbound = do
  session ← unsigned
  cost ← name
  pure (Whole (call.Unbound session cost))
arguments command.Rebase = do
  session ← unsigned
  version ← unsigned
  dropping ← flag (codes "dropping")
  pure (Whole (call.Rebase session version dropping))
arguments command.Close = do
  session ← unsigned
  pure (Whole (call.Close session))
arguments command.Publish = do
  base ← unsigned
  lines ← line_count
  pure (PublishHead base lines)
arguments command.Reclaim = do
  version ← unsigned
  pure (Whole (call.Reclaim version))
arguments command.Versions = pure (Whole call.Versions)
arguments command.Leave = pure (Whole call.Leave)

-- all words: a command and its arguments, and no more
unfoldable pub command_line : WordReader LineCall
command_line = do
  command ← word_of_kind command_of
  said ← arguments command
  end
  pure said

abbrev pub value_of : Result (LineCall × Rest) BadColumn → Result LineCall BadColumn
value_of (Ok found) = Ok found.0
value_of (Err column) = Err column

-- what the words of a line say from a byte on, or the column of the first that is wrong or missing
abbrev pub line_call : List ℕ → ℕ → Result LineCall BadColumn
line_call line from = value_of (command_line (rest_of line from))
