-- Which statuses a job has.
use Rattle.std.proofs.Common.{◌≡◌}
use Rattle.pc_io.specs.Ends.{Ends}
use Rattle.pc_script.specs.declared.script_end.ScriptEnd.{ScriptEnd}
use Rattle.pc_script.specs.declared.script_end.ScriptEnd.TheVariants as end
use Rattle.pc_top.specs.declared.form.Form.{Form}
use Rattle.pc_top.specs.declared.form.Form.TheVariants as form
use Rattle.pc_top.specs.declared.status.Status.{Status}
use Rattle.pc_top.specs.declared.status.Status.TheVariants.{Done, WrongWords, Refused, ReadFault, WriteFault, NoMemory, TooLong}
use Rattle.pc_top.specs.Does.{Does}
use Rattle.pc_top.specs.ScriptStatus.{status_after}
use Rattle.pc_top.specs.Status.{code}

no_script : (e : ScriptEnd) → WrongWords ≡ status_after e → ⊥
no_script end.Ended is = absurd cc
no_script end.ReadFault is = absurd cc
no_script end.WriteFault is = absurd cc
no_script end.TooLong is = absurd cc
no_script end.NoMemory is = absurd cc

-- no job says that the words are wrong
no_job : (asked : Form) (before after : Ends) → Does asked WrongWords before after → ⊥
no_job form.List before after does = does.leaves
no_job form.Dump before after does = does.leaves
no_job form.Check before after does = does.leaves
no_job form.Script before after does = no_script does.end does.status_is
no_job (form.Generate size) before after does = does.leaves

pub not_two : (asked : Form) (status : Status) (before after : Ends) → Does asked status before after → code status ≡ 2 → ⊥
not_two asked Done before after does two = absurd cc
not_two asked WrongWords before after does two = no_job asked before after does
not_two asked Refused before after does two = absurd cc
not_two asked ReadFault before after does two = absurd cc
not_two asked WriteFault before after does two = absurd cc
not_two asked NoMemory before after does two = absurd cc
not_two asked TooLong before after does two = absurd cc
