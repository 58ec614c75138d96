use Rattle.std.proofs.Common.{◌≡◌, List, All, slice_get, take}
use Rattle.pc_store.specs.declared.id.Node.{Node}
use Rattle.pc_apply.proofs.step.step_before.Given as goal

abbrev pub invariant-loop-row : goal.invariant-loop-row
invariant-loop-row l = All (λ (row : List Node). slice_get row l.before ≡ slice_get row l.value) (take l.row-index l.rows)
