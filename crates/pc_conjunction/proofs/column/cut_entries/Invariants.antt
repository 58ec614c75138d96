use Rattle.std.proofs.Common.{ℕ, List}
use Rattle.pc_store.specs.Sets.{has, id_at}
use Rattle.pc_conjunction.proofs.ColumnLemmas.{Cutting}
use Rattle.pc_conjunction.proofs.column.cut_entries.Given as goal

abbrev pub invariant-loop-place : goal.invariant-loop-place
invariant-loop-place l = Cutting l.store l.layer l.count (λ (word : List ℕ). has l.store (id_at l.layer l.node) word) l.place-index l.fn.next.keys l.next.keys l.column l.cut
