-- What a job answers.
use Rattle.std.specs.Prelude.{ℕ, List}
use Rattle.pc_top.specs.declared.status.Status.{Status}

-- a status and all bytes of the output
pub record Output : Type 0 where
  pub status : Status
  pub text : List ℕ
