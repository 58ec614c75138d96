use Rattle.std.proofs.Common.{◌∙◌, ◌&&◌, ◌+◌, ◌++◌, ◌∷◌, [], ℕ, Bool, true, List, sym, subst, arith}
use Rattle.pc_file.specs.Products.{value_counts}
use Rattle.pc_file.specs.Rule.{holds}
use Rattle.pc_diagram.specs.declared.limits.TheConstants.{MOST_NODES}
use Rattle.pc_file.specs.Parts.{parts_of, sets_of, IsNodeLimit}
use Rattle.pc_build.specs.Making.{Holds, StopsAt, Stopped}
use Rattle.pc_build.proofs.JoinedLemmas.{joined_none, joined_more, limit_at}
use Rattle.pc_build.proofs.SpelledLemmas.{one_spelled}
use Rattle.pc_build.proofs.rules.words_of_rules.Goals as goal

pub loop-place-init : goal.loop-place-init
loop-place-init c = record {
  joined = joined_none c.args.variables.now c.args.rules.now c.in_ok-joint.joint.all (subst (λ d. Holds d c.in_ok-joint.joint.all (λ word. true)) (c.in_ok-store.ensures ∙ c.requires.domains) c.in_ok-joint.ensures);
  domains = c.in_ok-store.ensures;
}

pub join_rule-requires-clause-domains : goal.join_rule-requires-clause-domains
join_rule-requires-clause-domains c = c.in_ok-store-2.ensures ∙ c.requires.domains

pub join_rule-requires-clause-obeys : goal.join_rule-requires-clause-obeys
join_rule-requires-clause-obeys c = c.loop-place.invariant.joined.holds_all.domains_are

pub join_rule-requires-clause-spelled : goal.join_rule-requires-clause-spelled
join_rule-requires-clause-spelled c = one_spelled c.args.variables.now c.args.rules.now c.loop-place.place c.index-rules-place.result c.requires.spelled (let low = c.loop-place-test.true in omega arith) c.index-rules-place.is

pub returns-in-Err-TooLarge-clause-fault : goal.returns-in-Err-TooLarge-clause-fault
returns-in-Err-TooLarge-clause-fault c =
    let joined = c.loop-place.invariant.joined in
    let made = c.in-Err-TooLarge.ensures.made joined.obeys joined.holds_all in
    let rule = c.index-rules-place.result in
    let sets : List (List ℕ → Bool) = parts_of c.args.variables.now rule ++ (λ word. joined.obeys word && holds c.args.variables.now word rule) ∷ [] in
    let stops : StopsAt (value_counts c.args.variables.now) sets 0 c.in-Err-TooLarge.part = subst (Stopped (value_counts c.args.variables.now) sets 0) c.in-Err-TooLarge.field-0-is made.1 in
    subst (IsNodeLimit MOST_NODES (value_counts c.args.variables.now) (sets_of c.args.variables.now (λ word. true) c.args.rules.now) (c.loop-place.place + 1)) (sym c.in-Err-TooLarge.part-is)
    (limit_at c.args.variables.now c.args.rules.now c.loop-place.place c.loop-place.joint.all rule joined (let low = c.loop-place-test.true in omega arith) c.index-rules-place.is c.in-Err-TooLarge.part stops)

pub loop-place-preserved : goal.loop-place-preserved
loop-place-preserved c =
    let joined = c.loop-place.invariant.joined in
    let made = c.in-Ok.ensures.made joined.obeys joined.holds_all in
    record {
      joined = joined_more c.args.variables.now c.args.rules.now c.loop-place.place c.loop-place.joint.all c.index-rules-place.result joined (let low = c.loop-place-test.true in omega arith) c.index-rules-place.is made.0 c.in-Ok.joint.all made.1 (c.in-Ok.ensures.words joined.obeys joined.holds_all);
      domains = c.join_rule.ensures.keeps.domains ∙ c.in_ok-store-2.ensures;
    }
