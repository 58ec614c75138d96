use Rattle.std.proofs.Common.{◌≡◌, ℕ, List, take}
use Rattle.std.specs.List.{list_any}
use Rattle.pc_store.specs.Sets.{IsIdAt, has, Keeps}
use Rattle.pc_build.proofs.joined.any_of.Given as goal

abbrev pub invariant-loop-set : goal.invariant-loop-set
invariant-loop-set l = record {
  is_id : IsIdAt l.store 0 l.any;
  words : (word : List ℕ) → has l.store l.any word ≡ list_any (λ set. has l.fn.store set word) (take l.set-index l.sets);
  keeps : Keeps l.fn.store l.store;
}
