use Rattle.std.proofs.Common.{◌≡◌, length, All}
use Rattle.pc_store.specs.Sets.{domains_of, IsIdAt}
use Rattle.pc_bench.proofs.build.first_values.Given as goal

abbrev pub invariant-loop-variable : goal.invariant-loop-variable
invariant-loop-variable l = record {
  count : length (domains_of l.store) ≡ l.variables;
  ids : All (IsIdAt l.store 0) l.ids.items;
}
