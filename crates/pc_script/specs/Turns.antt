-- One turn of a script: the next line is heard, with the lines of a text where it announces one, and answered.
use Rattle.std.specs.Prelude.{◌≡◌, ℕ, ◌≤◌, true, false, List, [], ◌∷◌, length, Option, Some, None, Result, Ok, Err}
use Rattle.std.specs.Io.KnownBytes.{append_known}
use Rattle.pc_base.specs.Rose.{Rose}
use Rattle.pc_io.specs.declared.line_fault.LineFault.{LineFault}
use Rattle.pc_io.specs.declared.line_fault.LineFault.TheVariants as line
use Rattle.pc_io.specs.NextLine.{is_outside_fault}
use Rattle.pc_io.specs.Took.{Moment, Took, Stopped}
use Rattle.pc_io.specs.Told.{GrewByPart}
use Rattle.pc_calls.specs.State.{State}
use Rattle.pc_conn.specs.declared.body.Body.{Body}
use Rattle.pc_conn.specs.declared.body.Body.TheVariants.{File, Fault, Cut}
use Rattle.pc_script.specs.declared.item.Said.{Said}
use Rattle.pc_script.specs.declared.script_end.ScriptEnd.{ScriptEnd}
use Rattle.pc_script.specs.declared.script_end.ScriptEnd.TheVariants.{Ended, ReadFault, WriteFault, TooLong, NoMemory}
use Rattle.pc_script.specs.declared.turn.SaidNext.{SaidNext}
use Rattle.pc_script.specs.declared.turn.Turn.{Turn}
use Rattle.pc_script.specs.declared.turn.Turn.TheVariants.{Going, Last}
use Rattle.pc_script.specs.Script.{commanded, answers, after_lines, last_answers, said_text, said_after}
use Rattle.pc_script.specs.ScriptHistory.{said_by, said_in}

-- lines were taken that say this, and a command comes next
pub record SaysNext (state : State) (said : Said) (before after : Moment) : Type 0 where
  pub taken : List (List ℕ)
  pub bytes : List ℕ
  pub took : Took taken bytes before after
  pub some : 1 ≤ length taken
  pub text : answers (commanded state) taken ≡ said_text state said
  pub items : said_by (commanded state) taken ≡ said ∷ []
  pub then : after_lines (commanded state) taken ≡ commanded (said_after state said)

-- the last lines were taken, which say this where nothing comes after them
pub record SaysLast (state : State) (said : Said) (before after : Moment) : Type 0 where
  pub taken : List (List ℕ)
  pub bytes : List ℕ
  pub took : Took taken bytes before after
  pub ended : after.cutter.ended ≡ true
  pub text : last_answers (commanded state) taken ≡ said_text state said
  pub items : said_in (commanded state) taken ≡ said ∷ []

-- nothing was left to take
pub record SaysNothing (before after : Moment) : Type 0 where
  pub took : Took [] [] before after
  pub ended : after.cutter.ended ≡ true

-- lines were taken that call for no answer yet, and the next line can't be cut
pub record HearsNone (state : State) (fault : LineFault) (before after : Moment) : Type 0 where
  pub taken : List (List ℕ)
  pub bytes : List ℕ
  pub at : Moment
  pub took : Took taken bytes before at
  pub stopped : Stopped fault at after
  pub silent : answers (commanded state) taken ≡ []

-- a limit that the next line breaks
pub record HearsLimit (state : State) (before after : Moment) : Type 0 where
  pub fault : LineFault
  pub inside : is_outside_fault fault ≡ false
  pub none : HearsNone state fault before after

abbrev pub HearsTurn : State → Said → Turn → Moment → Moment → Type 0
HearsTurn state said Going before after = SaysNext state said before after
HearsTurn state said Last before after = SaysLast state said before after

-- what was heard
abbrev pub Hears : State → Result (Option SaidNext) ScriptEnd → Moment → Moment → Type 0
Hears state (Ok (Some next)) before after = HearsTurn state next.said next.turn before after
Hears state (Ok None) before after = SaysNothing before after
Hears state (Err Ended) before after = ⊥
Hears state (Err ReadFault) before after = HearsNone state line.ReadFault before after
Hears state (Err WriteFault) before after = ⊥
Hears state (Err TooLong) before after = HearsLimit state before after
Hears state (Err NoMemory) before after = Unit {0}

-- nothing comes after a text that the end cuts
abbrev pub turn_after : Body → Turn
turn_after (File file) = Going
turn_after (Fault line kind) = Going
turn_after Cut = Last

-- the whole text was written, or a part of it, or nothing
abbrev pub Writes : List ℕ → Result (Unit {0}) ScriptEnd → Option (List ℕ) → Option (List ℕ) → ℕ → ℕ → Type 0
Writes text (Ok done) old new faults_then faults = new ≡ append_known old text
Writes text (Err Ended) old new faults_then faults = ⊥
Writes text (Err ReadFault) old new faults_then faults = ⊥
Writes text (Err WriteFault) old new faults_then faults = Rose faults_then faults × GrewByPart text old new
Writes text (Err TooLong) old new faults_then faults = ⊥
Writes text (Err NoMemory) old new faults_then faults = new ≡ old
