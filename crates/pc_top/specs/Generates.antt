-- What `generate` leaves, by its status. Nothing is read, and no number of variables is refused.
use Rattle.std.specs.Prelude.{◌≡◌, ℕ, List}
use Rattle.std.specs.Io.KnownBytes.{append_known}
use Rattle.pc_base.specs.Rose.{Rose}
use Rattle.pc_generator.specs.Summary.{IsSummary}
use Rattle.pc_io.specs.Ends.{Ends}
use Rattle.pc_io.specs.Told.{GrewByPart}
use Rattle.pc_top.specs.declared.status.Status.{Status}
use Rattle.pc_top.specs.declared.status.Status.TheVariants.{Done, WrongWords, Refused, ReadFault, WriteFault, NoMemory, TooLong}
use Rattle.pc_top.specs.Outcome.{NothingWritten}

-- the summary was written, all of it
pub record IsTold (variables : ℕ) (before after : Ends) : Type 0 where
  pub summary : List ℕ
  pub is_summary : IsSummary variables summary
  pub written : after.written ≡ append_known before.written summary

-- a part of it was
pub record StopsWithin (variables : ℕ) (before after : Ends) : Type 0 where
  pub summary : List ℕ
  pub is_summary : IsSummary variables summary
  pub part : GrewByPart summary before.written after.written

-- nothing was read
abbrev pub NothingRead : Ends → Ends → Type 0
NothingRead before after = (after.rest ≡ before.rest) × (after.read_faults ≡ before.read_faults)

-- what each status leaves of the output
abbrev pub GeneratorLeaves : ℕ → Status → Ends → Ends → Type 0
GeneratorLeaves variables Done before after = IsTold variables before after
GeneratorLeaves variables WrongWords before after = ⊥
GeneratorLeaves variables Refused before after = ⊥
GeneratorLeaves variables ReadFault before after = ⊥
GeneratorLeaves variables WriteFault before after = Rose before.write_faults after.write_faults × StopsWithin variables before after
GeneratorLeaves variables NoMemory before after = NothingWritten before after
GeneratorLeaves variables TooLong before after = ⊥

-- what it leaves of both ends
pub record Generates (variables : ℕ) (status : Status) (before after : Ends) : Type 0 where
  pub unread : NothingRead before after
  pub leaves : GeneratorLeaves variables status before after
