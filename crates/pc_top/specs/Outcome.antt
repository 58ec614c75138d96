-- What a job leaves that reads its input to the end and answers it at once, by its status.
use Rattle.std.specs.Prelude.{◌≡◌, ℕ, List, Option, Some, None, IsSome, IfSome}
use Rattle.std.specs.Io.KnownBytes.{IsAtEnd, append_known, prepend_known}
use Rattle.pc_base.specs.Rose.{Rose}
use Rattle.pc_io.specs.declared.lines.TheConstants.{MOST_LINE_BYTES}
use Rattle.pc_io.specs.declared.line_fault.LineFault.{LineFault}
use Rattle.pc_io.specs.Ends.{Ends}
use Rattle.pc_io.specs.Limits.{broken_limit}
use Rattle.pc_io.specs.Told.{GrewByPart}
use Rattle.pc_top.specs.declared.job.Job.{Job}
use Rattle.pc_top.specs.declared.status.Status.{Status}
use Rattle.pc_top.specs.declared.status.Status.TheVariants.{Done, WrongWords, Refused, ReadFault, WriteFault, NoMemory, TooLong}
use Rattle.pc_top.specs.JobMeans.{Means, most_bytes}
use Rattle.pc_top.specs.Status.{UnlessFailed}

-- the limit that an input breaks: that of a line, or of all bytes
abbrev pub job_limit : Job → List ℕ → Option LineFault
job_limit job text = broken_limit MOST_LINE_BYTES (most_bytes job) text

-- an input was read to its end, and this answers it
pub record IsReply (job : Job) (status : Status) (answer : List ℕ) (before after : Option (List ℕ)) : Type 0 where
  pub text : List ℕ
  pub read : before ≡ prepend_known text after
  pub at_end : IsAtEnd after
  pub within : job_limit job text ≡ None
  pub means : Means job status text answer

-- an input was read to its end, and its answer was written, all of it
pub record IsAnswered (job : Job) (status : Status) (before after : Ends) : Type 0 where
  pub answer : List ℕ
  pub reply : IsReply job status answer before.rest after.rest
  pub written : after.written ≡ append_known before.written answer

-- an input was read to its end, and a part of its answer was written
pub record StopsShort (job : Job) (before after : Ends) : Type 0 where
  pub status : Status
  pub answer : List ℕ
  pub reply : IsReply job status answer before.rest after.rest
  pub part : GrewByPart answer before.written after.written

-- nothing was written
abbrev pub NothingWritten : Ends → Ends → Type 0
NothingWritten before after = (after.written ≡ before.written) × (after.write_faults ≡ before.write_faults)

-- what each status leaves
abbrev pub JobLeaves : Job → Status → Ends → Ends → Type 0
JobLeaves job Done before after = IsAnswered job Done before after
JobLeaves job WrongWords before after = ⊥
JobLeaves job Refused before after = IsAnswered job Refused before after
JobLeaves job ReadFault before after = Rose before.read_faults after.read_faults × NothingWritten before after
JobLeaves job WriteFault before after = Rose before.write_faults after.write_faults × StopsShort job before after
JobLeaves job NoMemory before after = NothingWritten before after
JobLeaves job TooLong before after = NothingWritten before after × IfSome before.rest (λ text. IsSome (job_limit job text))

-- an input within the limits calls for a status that some answer to it has; one that breaks a limit is too long
abbrev pub CallsFor : Job → Option LineFault → List ℕ → Status → Type 0
CallsFor job None text status = (answer : List ℕ) × Means job status text answer
CallsFor job (Some fault) text status = status ≡ TooLong

-- what a status leaves; and the bytes of the source call for it, unless an end failed or memory ran out
pub record AnswersJob (job : Job) (status : Status) (before after : Ends) : Type 0 where
  pub leaves : JobLeaves job status before after
  pub called : IfSome before.rest (λ text. UnlessFailed status (CallsFor job (job_limit job text) text status))
