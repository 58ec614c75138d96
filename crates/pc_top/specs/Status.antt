-- Exit statuses.
use Rattle.std.specs.Prelude.{◌≡◌, ◌⊎◌, ℕ}
use Rattle.pc_io.specs.declared.line_fault.LineFault.{LineFault}
use Rattle.pc_io.specs.declared.line_fault.LineFault.TheVariants as fault
use Rattle.pc_top.specs.declared.status.Status.{Status}
use Rattle.pc_top.specs.declared.status.Status.TheVariants.{Done, WrongWords, Refused, ReadFault, WriteFault, NoMemory, TooLong}

abbrev pub code : Status → ℕ
code Done = 0
code WrongWords = 2
code Refused = 3
code ReadFault = 4
code WriteFault = 5
code NoMemory = 6
code TooLong = 7

-- the status after a fault of reading
abbrev pub status_after_fault : LineFault → Status
status_after_fault fault.ReadFault = ReadFault
status_after_fault fault.LineTooLong = TooLong
status_after_fault fault.TotalTooLong = TooLong
status_after_fault fault.NoMemory = NoMemory

-- this holds of the input, unless an end failed or memory ran out: these have statuses of their own, whatever was read
abbrev pub UnlessFailed : Status → Type 0 → Type 0
UnlessFailed status called = called ⊎ (status ≡ ReadFault) ⊎ (status ≡ WriteFault) ⊎ (status ≡ NoMemory)
