use Rattle.std.proofs.Common.{◌≡◌, take, All}
use Rattle.pc_store.specs.Layered.{IsDomain}
use Rattle.pc_store.specs.Sets.{domains_of}
use Rattle.pc_conjunction.proofs.conjunction.domains_of.Given as goal

abbrev pub invariant-loop-layer : goal.invariant-loop-layer
invariant-loop-layer l = record {
  first : l.domains ≡ take l.layer (domains_of l.store);
  sizes : All IsDomain l.domains;
}
