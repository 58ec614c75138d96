-- How the program ends where a script does.
use Rattle.std.specs.Prelude.{◌≡◌, Option, Some, None, IfSome}
use Rattle.pc_io.specs.Ends.{Ends}
use Rattle.pc_io.specs.declared.line_fault.LineFault.{LineFault}
use Rattle.pc_script.specs.declared.script_end.ScriptEnd.{ScriptEnd}
use Rattle.pc_script.specs.declared.script_end.ScriptEnd.TheVariants as end
use Rattle.pc_script.specs.ScriptOutcome.{Leaves, broken}
use Rattle.pc_top.specs.declared.status.Status.{Status}
use Rattle.pc_top.specs.declared.status.Status.TheVariants.{Done, ReadFault, WriteFault, NoMemory, TooLong}
use Rattle.pc_top.specs.Status.{UnlessFailed}

-- the status of each end
abbrev pub status_after : ScriptEnd → Status
status_after end.Ended = Done
status_after end.ReadFault = ReadFault
status_after end.WriteFault = WriteFault
status_after end.TooLong = TooLong
status_after end.NoMemory = NoMemory

-- the status that bytes with or without a broken limit call for
abbrev pub status_by : Option LineFault → Status
status_by None = Done
status_by (Some fault) = TooLong

-- `script`: it ended as the status tells and left what that end leaves; and its bytes call for that status, unless an end failed
-- or memory ran out
pub record RunsScript (status : Status) (before after : Ends) : Type 0 where
  pub end : ScriptEnd
  pub status_is : status ≡ status_after end
  pub leaves : Leaves end before after
  pub called_for : IfSome before.rest (λ bytes. UnlessFailed status (status ≡ status_by (broken bytes)))
