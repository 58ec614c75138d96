use Rattle.std.proofs.Common.{rules}
use Rattle.pc_names.proofs.Spellings.{stored}
use Rattle.pc_names.proofs.name.Name.read.Goals as goal

pub invariant_of-result : goal.invariant_of-result
invariant_of-result c = rw c.copy_from_slice.ensures.after (stored _ (search rules))
