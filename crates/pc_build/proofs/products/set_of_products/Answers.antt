use Rattle.std.proofs.Common.{◌≡◌, true, ◌∙◌, List, All, sym, ap, subst}
use Rattle.std.specs.List.{list_all}
use Rattle.pc_diagram.specs.declared.limits.TheConstants.{MOST_NODES}
use Rattle.pc_store.specs.Layered.{IsDomain}
use Rattle.pc_store.specs.Sets.{domains_of}
use Rattle.pc_file.specs.declared.variable.Variable.{Variable}
use Rattle.pc_file.specs.declared.rule.Rule.{Rule}
use Rattle.pc_file.specs.Products.{value_counts, obeys}
use Rattle.pc_file.specs.Rule.{holds}
use Rattle.pc_file.specs.Parts.{sets_of, HasNoNodeLimit}
use Rattle.pc_build.specs.Making.{AreSpelled, Denotes, Holds}
use Rattle.pc_build.proofs.ProductLemmas.{counts_are_domains, rules_spelled, no_products, some_products}
use Rattle.pc_build.proofs.JoinedLemmas.{denotes_same}
use Rattle.pc_build.proofs.SmallLemmas.{products_small}
use Rattle.pc_build.proofs.products.set_of_products.Goals as goal

pub words_of_rules-requires-clause-sizes : goal.words_of_rules-requires-clause-sizes
words_of_rules-requires-clause-sizes c =
    subst (All IsDomain) (sym (c.as_slice.ensures ∙ c.in_ok-domains.ensures ∙ ap value_counts c.variables.ensures.variables)) (counts_are_domains _ c.args.file.now.variables c.variables.ensures.limits.each_variable)

pub words_of_rules-requires-clause-spelled : goal.words_of_rules-requires-clause-spelled
words_of_rules-requires-clause-spelled c =
    subst (λ (vs : List Variable). AreSpelled vs c.rules.result.now) (sym c.variables-2.ensures.variables)
    (subst (AreSpelled c.args.file.now.variables) (sym c.rules.ensures.rules) (rules_spelled c.args.file.now.variables c.args.file.now.rules c.rules.ensures.limits.each_rule))

pub returns-then-same_set-clause-fault : goal.returns-then-same_set-clause-fault
returns-then-same_set-clause-fault c =
    let small = subst (λ (vs : List Variable). HasNoNodeLimit MOST_NODES (value_counts vs) (sets_of vs (λ word. true) c.args.file.now.rules)) c.variables-2.ensures.variables
    (subst (λ (rs : List Rule). HasNoNodeLimit MOST_NODES (value_counts c.variables-2.result.now) (sets_of c.variables-2.result.now (λ word. true) rs)) c.rules.ensures.rules c.in_ok-all.ensures.small) in
    let test = obeys c.args.file.now in
    let all : Holds (value_counts c.args.file.now.variables) c.in_ok-all.all test = subst (λ (vs : List Variable). Holds (value_counts vs) c.in_ok-all.all (λ word. list_all (holds vs word) c.args.file.now.rules)) c.variables-2.ensures.variables
    (subst (λ (rs : List Rule). Holds (value_counts c.variables-2.result.now) c.in_ok-all.all (λ word. list_all (holds c.variables-2.result.now word) rs)) c.rules.ensures.rules c.in_ok-all.ensures.words) in
    let domains : domains_of c.in_ok-made.made.store ≡ value_counts c.args.file.now.variables = c.in_ok-made.ensures.domains ∙ all.domains_are in
    let denotes : Denotes c.in_ok-made.made.store test c.in_ok-made.made.set = denotes_same (value_counts c.args.file.now.variables) c.in_ok-all.all c.in_ok-made.made.store c.in_ok-made.made.set test domains c.in_ok-made.ensures.is_id c.in_ok-made.ensures.words all in
    (small, no_products c.in_ok-made.made.store c.args.file.now c.in_ok-made.made.set c.empty.result c.same_set.result domains denotes c.empty.ensures.set c.same_set.ensures c.if-same_set.true)

pub returns-clause-nodes : goal.returns-clause-nodes
returns-clause-nodes c =
    let test = obeys c.args.file.now in
    let all : Holds (value_counts c.args.file.now.variables) c.in_ok-all.all test = subst (λ (vs : List Variable). Holds (value_counts vs) c.in_ok-all.all (λ word. list_all (holds vs word) c.args.file.now.rules)) c.variables-2.ensures.variables
    (subst (λ (rs : List Rule). Holds (value_counts c.variables-2.result.now) c.in_ok-all.all (λ word. list_all (holds c.variables-2.result.now word) rs)) c.rules.ensures.rules c.in_ok-all.ensures.words) in
    let domains : domains_of c.in_ok-made.made.store ≡ value_counts c.args.file.now.variables = c.in_ok-made.ensures.domains ∙ all.domains_are in
    let denotes : Denotes c.in_ok-made.made.store test c.in_ok-made.made.set = denotes_same (value_counts c.args.file.now.variables) c.in_ok-all.all c.in_ok-made.made.store c.in_ok-made.made.set test domains c.in_ok-made.ensures.is_id c.in_ok-made.ensures.words all in
    let small = subst (λ (vs : List Variable). HasNoNodeLimit MOST_NODES (value_counts vs) (sets_of vs (λ word. true) c.args.file.now.rules)) c.variables-2.ensures.variables
    (subst (λ (rs : List Rule). HasNoNodeLimit MOST_NODES (value_counts c.variables-2.result.now) (sets_of c.variables-2.result.now (λ word. true) rs)) c.rules.ensures.rules c.in_ok-all.ensures.small) in
    products_small c.in_ok-made.made.store c.args.file.now c.in_ok-made.made.set c.variables.ensures.limits small domains denotes

pub returns-clause-some : goal.returns-clause-some
returns-clause-some c =
    let test = obeys c.args.file.now in
    let all : Holds (value_counts c.args.file.now.variables) c.in_ok-all.all test = subst (λ (vs : List Variable). Holds (value_counts vs) c.in_ok-all.all (λ word. list_all (holds vs word) c.args.file.now.rules)) c.variables-2.ensures.variables
    (subst (λ (rs : List Rule). Holds (value_counts c.variables-2.result.now) c.in_ok-all.all (λ word. list_all (holds c.variables-2.result.now word) rs)) c.rules.ensures.rules c.in_ok-all.ensures.words) in
    let domains : domains_of c.in_ok-made.made.store ≡ value_counts c.args.file.now.variables = c.in_ok-made.ensures.domains ∙ all.domains_are in
    let denotes : Denotes c.in_ok-made.made.store test c.in_ok-made.made.set = denotes_same (value_counts c.args.file.now.variables) c.in_ok-all.all c.in_ok-made.made.store c.in_ok-made.made.set test domains c.in_ok-made.ensures.is_id c.in_ok-made.ensures.words all in
    some_products c.in_ok-made.made.store c.args.file.now c.in_ok-made.made.set c.empty.result c.same_set.result domains denotes c.empty.ensures.set c.same_set.ensures c.if-same_set.false

pub returns-clause-set : goal.returns-clause-set
returns-clause-set c =
    let test = obeys c.args.file.now in
    let all : Holds (value_counts c.args.file.now.variables) c.in_ok-all.all test = subst (λ (vs : List Variable). Holds (value_counts vs) c.in_ok-all.all (λ word. list_all (holds vs word) c.args.file.now.rules)) c.variables-2.ensures.variables
    (subst (λ (rs : List Rule). Holds (value_counts c.variables-2.result.now) c.in_ok-all.all (λ word. list_all (holds c.variables-2.result.now word) rs)) c.rules.ensures.rules c.in_ok-all.ensures.words) in
    let domains : domains_of c.in_ok-made.made.store ≡ value_counts c.args.file.now.variables = c.in_ok-made.ensures.domains ∙ all.domains_are in
    let denotes : Denotes c.in_ok-made.made.store test c.in_ok-made.made.set = denotes_same (value_counts c.args.file.now.variables) c.in_ok-all.all c.in_ok-made.made.store c.in_ok-made.made.set test domains c.in_ok-made.ensures.is_id c.in_ok-made.ensures.words all in
    denotes

pub returns-clause-domains : goal.returns-clause-domains
returns-clause-domains c = c.in_ok-made.ensures.domains ∙ c.in_ok-all.ensures.words.domains_are ∙ ap value_counts c.variables-2.ensures.variables

pub returns-clause-small : goal.returns-clause-small
returns-clause-small c =
    let small = subst (λ (vs : List Variable). HasNoNodeLimit MOST_NODES (value_counts vs) (sets_of vs (λ word. true) c.args.file.now.rules)) c.variables-2.ensures.variables
    (subst (λ (rs : List Rule). HasNoNodeLimit MOST_NODES (value_counts c.variables-2.result.now) (sets_of c.variables-2.result.now (λ word. true) rs)) c.rules.ensures.rules c.in_ok-all.ensures.small) in
    small
