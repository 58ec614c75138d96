use Rattle.std.proofs.Common.{◌≡◌, ◌≤◌, [], length, take}
use Rattle.pc_store.specs.Sets.{domains_of}
use Rattle.pc_apply.specs.Counting.{count_at}
use Rattle.pc_apply.proofs.quota.count_at_end.Given as goal

abbrev pub invariant-loop-set : goal.invariant-loop-set
invariant-loop-set l = record {
  counted : l.count ≡ count_at l.store (length (domains_of l.store)) (take l.set-index l.set-items) [];
  few : l.count ≤ l.set-index;
}
