use Rattle.std.proofs.Common.{◌≡◌, List, ℕ, ◌∷◌, ◌++◌, nat_eq, true, take}
use Rattle.std.specs.List.{list_any}
use Rattle.pc_store.specs.Each.{NamesEach}
use Rattle.pc_store.proofs.size.add_each.Given as goal

abbrev pub invariant-loop-node : goal.invariant-loop-node
invariant-loop-node l = record {
  each : (before : List ℕ) → NamesEach before l.fn.set.keys → NamesEach (before ++ take l.node-index l.nodes) l.set.keys;
  last : list_any (nat_eq l.last) (0 ∷ take l.node-index l.nodes) ≡ true;
}
