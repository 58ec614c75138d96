use Rattle.std.proofs.Common.{◌+◌, ◌*◌, take}
use Rattle.std.specs.List.{flat_map}
use Rattle.pc_store.specs.Sets.{Keeps}
use Rattle.pc_file.specs.Products.{value_counts}
use Rattle.pc_file.specs.Parts.{parts_of}
use Rattle.pc_build.specs.Making.{DenoteEach, AllMade}
use Rattle.pc_build.proofs.WeightLemmas.{weight, weights}
use Rattle.pc_build.proofs.parts.+parts.Given as goal

abbrev pub invariant-sets_of_rules-loop-rule : goal.invariant-sets_of_rules-loop-rule
invariant-sets_of_rules-loop-rule l = record {
  sets : DenoteEach l.store l.variables (take l.rule-index l.rules) l.sets;
  made : AllMade (value_counts l.variables) (flat_map (parts_of l.variables) (take l.rule-index l.rules)) l.fn.made l.made;
  keeps : Keeps l.fn.store l.store;
}

abbrev pub decreases-set_of_rule : goal.decreases-set_of_rule
decreases-set_of_rule l = 3 * weight l.rule.now + 2

abbrev pub decreases-sets_of_subrules : goal.decreases-sets_of_subrules
decreases-sets_of_subrules l = 3 * weight l.rule.now + 1

abbrev pub decreases-sets_of_rules : goal.decreases-sets_of_rules
decreases-sets_of_rules l = 3 * weights l.rules.now + 3
