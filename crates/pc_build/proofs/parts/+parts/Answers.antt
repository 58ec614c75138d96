use Rattle.std.proofs.Common.{◌≡◌, ◌∷◌, [], ◌+◌, List, ℕ, Bool, take, arith, refl, sym, subst, ◌∙◌}
use Rattle.std.specs.List.{flat_map}
use Rattle.std.proofs.lemmas.Result.{err_from_is_err_and}
use Rattle.pc_store.specs.declared.id.Id.{Id}
use Rattle.pc_store.specs.Sets.{domains_of}
use Rattle.pc_store.proofs.SetLemmas.{keeps_then}
use Rattle.pc_file.specs.Products.{value_counts}
use Rattle.pc_file.specs.Parts.{parts_of}
use Rattle.pc_file.specs.Rule.{holds}
use Rattle.pc_build.specs.Making.{AllMade, Stopped, DenoteEach}
use Rattle.pc_build.proofs.MakingLemmas.{all_made_both, stopped_in_rule, denote_more, one_rule_more}
use Rattle.pc_build.proofs.SpelledLemmas.{not_spelled, premise_spelled, consequence_spelled, and_spelled, or_spelled, at_most_spelled, one_spelled}
use Rattle.pc_build.proofs.WeightLemmas.{weight-Not, weight-And, weight-Or, weight-Implies, weight-AtMost, weight_at}
use Rattle.pc_build.proofs.RuleParts.{subrules_stop, rule_stops, rule_made, first_stops, second_stops, both_made}
use Rattle.pc_build.proofs.parts.+parts.Goals as goal

pub set_of_rule-returns-in_err-sets-clause-made : goal.set_of_rule-returns-in_err-sets-clause-made
set_of_rule-returns-in_err-sets-clause-made t c =
    let p = err_from_is_err_and c.from_residual.result c.from_residual.ensures.1 in
    rw (p.1, p.2) (subrules_stop c.args.variables.now c.args.rule.now (value_counts c.args.variables.now) c.args.made.now _ c.in_err-sets.ensures.made)

pub set_of_rule-returns-in_err-count_part-clause-made : goal.set_of_rule-returns-in_err-count_part-clause-made
set_of_rule-returns-in_err-count_part-clause-made t c =
    let p = err_from_is_err_and c.from_residual-in_err-count_part.result c.from_residual-in_err-count_part.ensures.1 in
    let test : List ℕ → Bool = λ word. holds c.args.variables.now word c.args.rule.now in
    let same : domains_of c.set_over_subrules.new.store ≡ value_counts c.args.variables.now = c.set_over_subrules.ensures.keeps.domains ∙ c.sets_of_subrules.ensures.keeps.domains ∙ c.requires.domains in
    rw (p.1, p.2) (rule_stops c.args.variables.now c.args.rule.now (value_counts c.args.variables.now) c.args.made.now c.sets_of_subrules.new.made _ c.in_ok-sets.ensures.made
    (subst (λ d. Stopped d (test ∷ []) c.sets_of_subrules.new.made c.in_err-count_part.field-0.0) same (c.in_err-count_part.ensures test c.in_ok-set.ensures.set)))

pub set_of_rule-returns-clause-made : goal.set_of_rule-returns-clause-made
set_of_rule-returns-clause-made t c =
    let test : List ℕ → Bool = λ word. holds c.args.variables.now word c.args.rule.now in
    let same : domains_of c.set_over_subrules.new.store ≡ value_counts c.args.variables.now = c.set_over_subrules.ensures.keeps.domains ∙ c.sets_of_subrules.ensures.keeps.domains ∙ c.requires.domains in
    rule_made c.args.variables.now c.args.rule.now (value_counts c.args.variables.now) c.args.made.now c.sets_of_subrules.new.made c.count_part.new.made c.in_ok-sets.ensures.made
    (subst (λ d. AllMade d (test ∷ []) c.sets_of_subrules.new.made c.count_part.new.made) same (c.in_ok-count_part.ensures test c.in_ok-set.ensures.set))

pub sets_of_rules-returns-in_err-set_of_rule-clause-made : goal.sets_of_rules-returns-in_err-set_of_rule-clause-made
sets_of_rules-returns-in_err-set_of_rule-clause-made t c =
    let p = err_from_is_err_and c.from_residual-in_err-set_of_rule.result c.from_residual-in_err-set_of_rule.ensures.1 in
    rw (p.1, p.2) (stopped_in_rule c.args.variables.now c.args.rules.now c.loop-rule.rule-index c.rule-item.result c.loop-rule-test.true c.rule-item.is (value_counts c.args.variables.now) c.args.made.now c.loop-rule.made _ c.loop-rule.invariant.made c.in_err-set_of_rule.ensures.made)

pub sets_of_rules-loop-rule-preserved : goal.sets_of_rules-loop-rule-preserved
sets_of_rules-loop-rule-preserved t c =
    let store = c.set_of_rule.new.store in
    let rules = c.args.rules.now in
    let i = c.loop-rule.rule-index in
    let rule = c.rule-item.result in
    record {
      sets = subst (DenoteEach store c.args.variables.now (take (i + 1) rules)) (sym {A = List Id} c.in_ok-push.ensures.ok) (denote_more c.loop-rule.store store c.args.variables.now rules i rule c.loop-rule.sets c.in_ok-set_of_rule.field-0 c.loop-rule-test.true c.rule-item.is c.set_of_rule.ensures.keeps c.loop-rule.invariant.sets c.in_ok-set_of_rule.ensures.set);
      made = subst (λ parts. AllMade (value_counts c.args.variables.now) parts c.args.made.now c.set_of_rule.new.made) (sym (one_rule_more c.args.variables.now rules i rule c.loop-rule-test.true c.rule-item.is))
          (all_made_both (value_counts c.args.variables.now) (flat_map (parts_of c.args.variables.now) (take i rules)) (parts_of c.args.variables.now rule) c.args.made.now c.loop-rule.made c.set_of_rule.new.made c.loop-rule.invariant.made c.in_ok-set_of_rule.ensures.made);
      keeps = keeps_then c.args.store.now c.loop-rule.store store c.loop-rule.invariant.keeps c.set_of_rule.ensures.keeps;
    }

pub sets_of_subrules-returns-in_err-first-in-Implies-clause-made : goal.sets_of_subrules-returns-in_err-first-in-Implies-clause-made
sets_of_subrules-returns-in_err-first-in-Implies-clause-made t c =
    let p = err_from_is_err_and c.from_residual-in_err-first-in-Implies.result c.from_residual-in_err-first-in-Implies.ensures.1 in
    rw (p.1, p.2) (first_stops c.args.variables.now c.args.rule.now c.in-Implies.premise c.in-Implies.consequence (value_counts c.args.variables.now) c.args.made.now _ c.in-Implies.is
    (subst (λ r. Stopped (value_counts c.args.variables.now) (parts_of c.args.variables.now r) c.args.made.now c.in_err-first-in-Implies.field-0.0) c.get-in-Implies.ensures c.in_err-first-in-Implies.ensures.made))

pub sets_of_subrules-returns-in_err-second-in-Implies-clause-made : goal.sets_of_subrules-returns-in_err-second-in-Implies-clause-made
sets_of_subrules-returns-in_err-second-in-Implies-clause-made t c =
    let p = err_from_is_err_and c.from_residual-in_err-second-in-Implies.result c.from_residual-in_err-second-in-Implies.ensures.1 in
    rw (p.1, p.2) (second_stops c.args.variables.now c.args.rule.now c.in-Implies.premise c.in-Implies.consequence (value_counts c.args.variables.now) c.args.made.now c.set_of_rule-in-Implies.new.made _ c.in-Implies.is
    (subst (λ r. AllMade (value_counts c.args.variables.now) (parts_of c.args.variables.now r) c.args.made.now c.set_of_rule-in-Implies.new.made) c.get-in-Implies.ensures c.in_ok-first-in-Implies.ensures.made)
    (subst (λ r. Stopped (value_counts c.args.variables.now) (parts_of c.args.variables.now r) c.set_of_rule-in-Implies.new.made c.in_err-second-in-Implies.field-0.0) c.get-in-Implies-2.ensures c.in_err-second-in-Implies.ensures.made))

pub sets_of_subrules-returns-in_ok-from_slice-in-Implies-clause-made : goal.sets_of_subrules-returns-in_ok-from_slice-in-Implies-clause-made
sets_of_subrules-returns-in_ok-from_slice-in-Implies-clause-made t c =
    both_made c.args.variables.now c.args.rule.now c.in-Implies.premise c.in-Implies.consequence (value_counts c.args.variables.now) c.args.made.now c.set_of_rule-in-Implies.new.made c.set_of_rule-in-Implies-2.new.made c.in-Implies.is
    (subst (λ r. AllMade (value_counts c.args.variables.now) (parts_of c.args.variables.now r) c.args.made.now c.set_of_rule-in-Implies.new.made) c.get-in-Implies.ensures c.in_ok-first-in-Implies.ensures.made)
    (subst (λ r. AllMade (value_counts c.args.variables.now) (parts_of c.args.variables.now r) c.set_of_rule-in-Implies.new.made c.set_of_rule-in-Implies-2.new.made) c.get-in-Implies-2.ensures c.in_ok-second-in-Implies.ensures.made)

pub sets_of_subrules-set_of_rule-requires : goal.sets_of_subrules-set_of_rule-requires
sets_of_subrules-set_of_rule-requires t c =
    let less = weight-Not c.args.rule.now c.in-Not.inner c.get.result.now c.in-Not.is c.get.ensures in
    (omega (arith, c.decreases), (c.requires.domains, not_spelled c.args.variables.now c.args.rule.now c.in-Not.inner c.get.result.now c.in-Not.is c.get.ensures c.requires.spelled))

pub sets_of_subrules-set_of_rule-requires-in-Implies : goal.sets_of_subrules-set_of_rule-requires-in-Implies
sets_of_subrules-set_of_rule-requires-in-Implies t c =
    let less = weight-Implies c.args.rule.now c.in-Implies.premise c.in-Implies.consequence c.get-in-Implies.result.now c.in-Implies.consequence c.in-Implies.is c.get-in-Implies.ensures refl in
    (omega (arith, c.decreases), (c.requires.domains, premise_spelled c.args.variables.now c.args.rule.now c.in-Implies.premise c.in-Implies.consequence c.get-in-Implies.result.now c.in-Implies.is c.get-in-Implies.ensures c.requires.spelled))

pub sets_of_subrules-set_of_rule-requires-in-Implies-2 : goal.sets_of_subrules-set_of_rule-requires-in-Implies-2
sets_of_subrules-set_of_rule-requires-in-Implies-2 t c =
    let less = weight-Implies c.args.rule.now c.in-Implies.premise c.in-Implies.consequence c.in-Implies.premise c.get-in-Implies-2.result.now c.in-Implies.is refl c.get-in-Implies-2.ensures in
    (omega (arith, c.decreases), (c.set_of_rule-in-Implies.ensures.keeps.domains ∙ c.requires.domains, consequence_spelled c.args.variables.now c.args.rule.now c.in-Implies.premise c.in-Implies.consequence c.get-in-Implies-2.result.now c.in-Implies.is c.get-in-Implies-2.ensures c.requires.spelled))

pub sets_of_subrules-sets_of_rules-requires : goal.sets_of_subrules-sets_of_rules-requires
sets_of_subrules-sets_of_rules-requires t c =
    let less = weight-And c.args.rule.now c.in-And.members c.as_slice.result.now c.in-And.is c.as_slice.ensures in
    (omega (arith, c.decreases), (c.requires.domains, and_spelled c.args.variables.now c.args.rule.now c.in-And.members c.as_slice.result.now c.in-And.is c.as_slice.ensures c.requires.spelled))

pub sets_of_subrules-sets_of_rules-requires-in-Or : goal.sets_of_subrules-sets_of_rules-requires-in-Or
sets_of_subrules-sets_of_rules-requires-in-Or t c =
    let less = weight-Or c.args.rule.now c.in-Or.members c.as_slice-in-Or.result.now c.in-Or.is c.as_slice-in-Or.ensures in
    (omega (arith, c.decreases), (c.requires.domains, or_spelled c.args.variables.now c.args.rule.now c.in-Or.members c.as_slice-in-Or.result.now c.in-Or.is c.as_slice-in-Or.ensures c.requires.spelled))

pub sets_of_subrules-sets_of_rules-requires-in-AtMost : goal.sets_of_subrules-sets_of_rules-requires-in-AtMost
sets_of_subrules-sets_of_rules-requires-in-AtMost t c =
    let less = weight-AtMost c.args.rule.now c.in-AtMost.most c.in-AtMost.members c.as_slice-in-AtMost.result.now c.in-AtMost.is c.as_slice-in-AtMost.ensures in
    (omega (arith, c.decreases), (c.requires.domains, at_most_spelled c.args.variables.now c.args.rule.now c.in-AtMost.most c.in-AtMost.members c.as_slice-in-AtMost.result.now c.in-AtMost.is c.as_slice-in-AtMost.ensures c.requires.spelled))

pub sets_of_rules-set_of_rule-requires : goal.sets_of_rules-set_of_rule-requires
sets_of_rules-set_of_rule-requires t c =
    let less = weight_at c.args.rules.now c.loop-rule.rule-index c.rule-item.result c.loop-rule-test.true c.rule-item.is in
    (omega (arith, c.decreases), (c.loop-rule.invariant.keeps.domains ∙ c.requires.domains, one_spelled c.args.variables.now c.args.rules.now c.loop-rule.rule-index c.rule-item.result c.requires.spelled c.loop-rule-test.true c.rule-item.is))
