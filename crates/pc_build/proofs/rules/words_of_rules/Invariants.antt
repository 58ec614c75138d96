use Rattle.std.proofs.Common.{◌≡◌}
use Rattle.pc_store.specs.Sets.{domains_of}
use Rattle.pc_build.specs.Building.{Joined}
use Rattle.pc_build.proofs.rules.words_of_rules.Given as goal

abbrev pub invariant-loop-place : goal.invariant-loop-place
invariant-loop-place l = record {
  joined : Joined l.variables l.rules l.place l.joint.all;
  domains : domains_of l.store ≡ l.domains;
}
