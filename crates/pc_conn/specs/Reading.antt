-- What reading the text of a publish takes off a source, and what it gives.
use Rattle.std.specs.Prelude.{◌≡◌, ℕ, ◌<◌, ◌≤◌, true, false, List, length, Option, None, Result, Ok, Err}
use Rattle.pc_io.specs.declared.line_fault.LineFault.{LineFault}
use Rattle.pc_io.specs.NextLine.{lasting}
use Rattle.pc_io.specs.Took.{Moment, Took, Stopped}
use Rattle.pc_file.specs.PrintedForm.{text_of_lines}
use Rattle.pc_conn.specs.declared.body.Body.{Body}
use Rattle.pc_conn.specs.declared.body.Body.TheVariants.{File, Fault, Cut}
use Rattle.pc_conn.specs.declared.body_fault.BodyFault.{BodyFault}
use Rattle.pc_conn.specs.declared.body_fault.BodyFault.TheVariants.{Line, NoMemory}
use Rattle.pc_conn.specs.BodyText.{body_of}

-- all lines of the text were taken, and with a line feed each they give this
pub record GivesBody (count : ℕ) (body : Body) (before after : Moment) : Type 0 where
  pub taken : List (List ℕ)
  pub bytes : List ℕ
  pub took : Took taken bytes before after
  pub all : length taken ≡ count
  pub gives : body ≡ body_of (text_of_lines taken)

-- fewer lines were taken, and the input has ended
pub record IsCut (count : ℕ) (before after : Moment) : Type 0 where
  pub taken : List (List ℕ)
  pub bytes : List ℕ
  pub took : Took taken bytes before after
  pub fewer : length taken < count
  pub ended : after.cutter.ended ≡ true

-- fewer lines were taken, and the next one couldn't be cut
pub record IsStopped (count : ℕ) (fault : LineFault) (before after : Moment) : Type 0 where
  pub taken : List (List ℕ)
  pub bytes : List ℕ
  pub at : Moment
  pub took : Took taken bytes before at
  pub going : before.cutter.ended ≡ false
  pub fewer : length taken < count
  pub stopped : Stopped fault at after

-- A fault comes only where there is a line to ask for. A fault that was told before is told again, of which a clause of
-- its own speaks; another one stops the reading.
pub record IsUnread (count : ℕ) (fault : LineFault) (before after : Moment) : Type 0 where
  pub some : 0 < count
  pub going : before.cutter.ended ≡ false
  pub stopped : before.cutter.fault ≡ None → IsStopped count fault before after

-- No memory was left: some of the lines were taken, or all, and nothing else.
pub record IsHalted (count : ℕ) (before after : Moment) : Type 0 where
  pub taken : List (List ℕ)
  pub bytes : List ℕ
  pub took : Took taken bytes before after
  pub few : length taken ≤ count

-- a text, the end, a fault, or want of memory
abbrev pub ReadsBody : ℕ → Result Body BodyFault → Moment → Moment → Type 0
ReadsBody count (Ok (File file)) before after = GivesBody count (File file) before after
ReadsBody count (Ok (Fault line kind)) before after = GivesBody count (Fault line kind) before after
ReadsBody count (Ok Cut) before after = IsCut count before after
ReadsBody count (Err (Line fault)) before after = IsUnread count fault before after
ReadsBody count (Err NoMemory) before after = IsHalted count before after

-- the fault that each later call tells again
abbrev pub fault_kept : Result Body BodyFault → Option LineFault
fault_kept (Ok body) = None
fault_kept (Err (Line fault)) = lasting fault
fault_kept (Err NoMemory) = None
