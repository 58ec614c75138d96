-- What a script leaves, by its end.
use Rattle.std.specs.Prelude.{◌≡◌, ℕ, ◌-◌, List, [], ◌++◌, length, take, Option, Some, None, Result, Ok, Err, IfSome}
use Rattle.std.specs.Io.KnownBytes.{IsAtEnd, append_known, prepend_known}
use Rattle.pc_base.specs.Lines.{lines, HasNoFeed}
use Rattle.pc_base.specs.Rose.{Rose}
use Rattle.pc_io.specs.declared.line_fault.LineFault.{LineFault}
use Rattle.pc_io.specs.declared.lines.TheConstants.{MOST_LINE_BYTES}
use Rattle.pc_io.specs.Ends.{Ends}
use Rattle.pc_io.specs.Limits.{broken_limit}
use Rattle.pc_io.specs.NextLine.{answer_to}
use Rattle.pc_io.specs.Told.{GrewByPart}
use Rattle.pc_calls.specs.declared.entry.Entry.{Entry}
use Rattle.pc_calls.specs.History.{IsLegal}
use Rattle.pc_script.specs.declared.running.TheConstants.{MOST_SCRIPT_BYTES}
use Rattle.pc_script.specs.declared.script_end.ScriptEnd.{ScriptEnd}
use Rattle.pc_script.specs.declared.script_end.ScriptEnd.TheVariants.{Ended, ReadFault, WriteFault, TooLong, NoMemory}
use Rattle.pc_script.specs.Script.{answers_to, script_text}
use Rattle.pc_script.specs.ScriptHistory.{asked, last_callers, leaves_of, said_calls, script_entries, script_history, script_items, texts_after}

-- the limit that a script breaks: that of a line, or of all bytes
abbrev pub broken : List ℕ → Option LineFault
broken bytes = broken_limit MOST_LINE_BYTES MOST_SCRIPT_BYTES bytes

-- The source was read to its end, and the script's text was written, all of it: the answers to what its bytes say, each in the
-- state after the history up to it. The whole history is legal, and has each call that the bytes say once, in order, and then
-- the leaves of those that are still present.
pub record AnswersAll (before after : Ends) : Type 0 where
  pub bytes : List ℕ
  pub read : before.rest ≡ prepend_known bytes after.rest
  pub at_end : IsAtEnd after.rest
  pub within : broken bytes ≡ None
  pub written : after.written ≡ append_known before.written (script_text bytes)
  pub told : script_text bytes ≡ texts_after [] (script_items bytes)
  pub legal : IsLegal (script_history bytes)
  pub once : asked (script_history bytes) ≡ said_calls (script_items bytes) ++ leaves_of (last_callers bytes)

-- of all bytes these are the lines before the first that breaks a limit, and they were answered
pub record AnswersBefore (all : List ℕ) (before after : Ends) : Type 0 where
  pub taken : List (List ℕ)
  pub bytes : List ℕ
  pub coming : List ℕ
  pub fault : LineFault
  pub parts : all ≡ bytes ++ coming
  pub cut : (later : List ℕ) → lines (bytes ++ later) ≡ taken ++ lines later
  pub within : broken bytes ≡ None
  pub breaks : answer_to MOST_LINE_BYTES (MOST_SCRIPT_BYTES - length bytes) coming ≡ Err fault
  pub is_broken : broken all ≡ Some fault
  pub written : after.written ≡ append_known before.written (answers_to taken)

-- these are the lines whose line feeds were read, and they were answered
pub record AnswersRead (before after : Ends) : Type 0 where
  pub taken : List (List ℕ)
  pub bytes : List ℕ
  pub part : List ℕ
  pub read : before.rest ≡ prepend_known (bytes ++ part) after.rest
  pub cut : (later : List ℕ) → lines (bytes ++ later) ≡ taken ++ lines later
  pub no_feed : HasNoFeed part
  pub written : after.written ≡ append_known before.written (answers_to taken)

-- the first so many lines of all bytes were answered
pub record AnswersSome (all : List ℕ) (before after : Ends) : Type 0 where
  pub count : ℕ
  pub written : after.written ≡ append_known before.written (answers_to (take count (lines all)))

abbrev pub Leaves : ScriptEnd → Ends → Ends → Type 0
Leaves Ended before after = AnswersAll before after
Leaves ReadFault before after = Rose before.read_faults after.read_faults × AnswersRead before after
Leaves WriteFault before after = Rose before.write_faults after.write_faults × IfSome before.rest (λ all. GrewByPart (script_text all) before.written after.written)
Leaves TooLong before after = IfSome before.rest (λ all. AnswersBefore all before after)
Leaves NoMemory before after = IfSome before.rest (λ all. AnswersSome all before after)

-- the end is told, or the input has ended
abbrev pub LeavesBy : Result (Unit {0}) ScriptEnd → Ends → Ends → Type 0
LeavesBy (Ok done) before after = AnswersAll before after
LeavesBy (Err Ended) before after = ⊥
LeavesBy (Err ReadFault) before after = Leaves ReadFault before after
LeavesBy (Err WriteFault) before after = Leaves WriteFault before after
LeavesBy (Err TooLong) before after = Leaves TooLong before after
LeavesBy (Err NoMemory) before after = Leaves NoMemory before after

-- so too before the callers leave, where these are the entries of all calls
pub record AnswersLines (history : List Entry) (before after : Ends) : Type 0 where
  pub answers : AnswersAll before after
  pub recorded : history ≡ script_entries answers.bytes

abbrev pub LeavesLines : List Entry → Result (Unit {0}) ScriptEnd → Ends → Ends → Type 0
LeavesLines history (Ok done) before after = AnswersLines history before after
LeavesLines history (Err end) before after = LeavesBy (Err end) before after

-- and after it, where this is the history of the journal
pub record AnswersJournal (history : List Entry) (before after : Ends) : Type 0 where
  pub answers : AnswersAll before after
  pub recorded : history ≡ script_history answers.bytes

abbrev pub LeavesJournal : List Entry → Result (Unit {0}) ScriptEnd → Ends → Ends → Type 0
LeavesJournal history (Ok done) before after = AnswersJournal history before after
LeavesJournal history (Err end) before after = LeavesBy (Err end) before after
