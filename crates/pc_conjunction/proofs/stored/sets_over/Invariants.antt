use Rattle.pc_store.specs.Sets.{Keeps}
use Rattle.pc_conjunction.specs.Stores.{AreOver}
use Rattle.pc_conjunction.proofs.stored.sets_over.Given as goal

abbrev pub invariant-loop-place : goal.invariant-loop-place
invariant-loop-place l = record {
  keeps : Keeps l.fn.store l.store;
  over : AreOver l.fn.store l.store l.layer l.columns l.below l.marks l.place l.sets;
}
