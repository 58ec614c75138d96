-- What the end of a script means for the program.
use Rattle.std.proofs.Common.{◌≡◌, ℕ, List, IfSome, inl, inr, refl, sym, ap, ◌∙◌}
use Rattle.pc_io.specs.Ends.{Ends}
use Rattle.pc_script.specs.declared.script_end.ScriptEnd.{ScriptEnd}
use Rattle.pc_script.specs.declared.script_end.ScriptEnd.TheVariants.{Ended, ReadFault, WriteFault, TooLong, NoMemory}
use Rattle.pc_script.specs.ScriptOutcome.{AnswersBefore, Leaves, broken}
use Rattle.pc_top.specs.Status.{UnlessFailed}
use Rattle.pc_top.specs.ScriptStatus.{RunsScript, status_after, status_by}
use Rattle.pc_top.proofs.ToldLemmas.{all_told, always, if_some}

-- the bytes call for the status of the end
Called : ScriptEnd → List ℕ → Type 0
Called end bytes = UnlessFailed (status_after end) (status_after end ≡ status_by (broken bytes))

called_for : (end : ScriptEnd) (before after : Ends) → Leaves end before after → IfSome before.rest (Called end)
unfolding Called
called_for Ended before after leaves =
    if_some before.rest (λ b. b ≡ leaves.bytes) (Called Ended) (all_told before.rest after.rest leaves.bytes leaves.read leaves.at_end)
    (λ b e. inl (sym (ap status_by (ap broken e ∙ leaves.within))))
called_for ReadFault before after leaves = always before.rest (Called ReadFault) (λ b. inr (inl refl))
called_for WriteFault before after leaves = always before.rest (Called WriteFault) (λ b. inr (inr (inl refl)))
called_for TooLong before after leaves =
    if_some before.rest (λ b. AnswersBefore b before after) (Called TooLong) leaves
    (λ b stops. inl (sym (ap status_by stops.is_broken)))
called_for NoMemory before after leaves = always before.rest (Called NoMemory) (λ b. inr (inr (inr refl)))

pub runs_script : (end : ScriptEnd) (before after : Ends) → Leaves end before after → RunsScript (status_after end) before after
unfolding Called
runs_script end before after leaves = record { end = end; status_is = refl; leaves = leaves; called_for = called_for end before after leaves }
