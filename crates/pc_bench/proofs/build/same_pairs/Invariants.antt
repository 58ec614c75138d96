use Rattle.std.proofs.Common.{◌≡◌, ◌*◌, length}
use Rattle.pc_store.specs.Sets.{domains_of, IsIdAt}
use Rattle.pc_bench.proofs.build.same_pairs.Given as goal

abbrev pub invariant-loop-first : goal.invariant-loop-first
invariant-loop-first l = record {
  count : length (domains_of l.store) ≡ 2 * l.pairs;
  is_id : IsIdAt l.store 0 l.all;
}
