-- What each form of the command line does.
use Rattle.std.specs.Prelude.{◌≡◌, ℕ}
use Rattle.pc_io.specs.Ends.{Ends}
use Rattle.pc_top.specs.declared.form.Form.{Form}
use Rattle.pc_top.specs.declared.form.Form.TheVariants.{List, Dump, Check, Script, Generate}
use Rattle.pc_top.specs.declared.status.Status.{Status}
use Rattle.pc_top.specs.declared.job.Job.TheVariants as job
use Rattle.pc_top.specs.Generates.{Generates}
use Rattle.pc_top.specs.Outcome.{AnswersJob}
use Rattle.pc_top.specs.ScriptStatus.{RunsScript}
use Rattle.pc_top.specs.Status.{code}

-- ends with a status, and leaves this
abbrev pub Does : Form → Status → Ends → Ends → Type 0
Does List = AnswersJob job.List
Does Dump = AnswersJob job.Dump
Does Check = AnswersJob job.Check
Does Script = RunsScript
Does (Generate size) = Generates size

-- the same, with the exit status
pub record Exits (form : Form) (exit : ℕ) (before after : Ends) : Type 0 where
  pub status : Status
  pub exit_is : exit ≡ code status
  pub does : Does form status before after
