-- What contracts see of the ends in memory.
use Rattle.std.specs.Prelude.{ℕ, ◌+◌, List}
use Rattle.pc_io.specs.Calls.{Calls, failed_calls}

-- the bytes still to give, the most bytes of a read, and the calls
pub record Supply : Type 0 where
  pub left : List ℕ
  pub most : ℕ
  pub calls : Calls

-- the bytes taken, how many there is room for, the calls, and how many of them found no room
pub record Intake : Type 0 where
  pub bytes : List ℕ
  pub capacity : ℕ
  pub calls : Calls
  pub refused : ℕ

-- the number of writes that failed, by plan or for want of room
abbrev pub failed_writes : Intake → ℕ
failed_writes intake = failed_calls intake.calls + intake.refused
