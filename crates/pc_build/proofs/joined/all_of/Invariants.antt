use Rattle.std.proofs.Common.{◌≡◌, ◌&&◌, ℕ, List, take}
use Rattle.std.specs.List.{list_all}
use Rattle.pc_diagram.specs.Words.{is_word}
use Rattle.pc_store.specs.Sets.{domains_of, IsIdAt, has, Keeps}
use Rattle.pc_build.proofs.joined.all_of.Given as goal

abbrev pub invariant-loop-set : goal.invariant-loop-set
invariant-loop-set l = record {
  is_id : IsIdAt l.store 0 l.all;
  words : (word : List ℕ) → has l.store l.all word ≡ (is_word (domains_of l.fn.store) word && list_all (λ set. has l.fn.store set word) (take l.set-index l.sets));
  keeps : Keeps l.fn.store l.store;
}
