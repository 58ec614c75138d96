use Rattle.std.proofs.Common.{◌≡◌, ℕ, ◌∙◌, true, true≢false, List, ap, get_or, replicate, take}
use Rattle.pc_store.specs.Sets.{domains_of, has, leads}
use Rattle.pc_apply.proofs.ProductLemmas.{ok_then}
use Rattle.pc_build.specs.Chains.{leads_on}
use Rattle.pc_build.proofs.ChainLemmas.{children_lead, first_children, same_children}
use Rattle.pc_build.proofs.chain.lengthen.Goals as goal

pub returns-clause-set : goal.returns-clause-set
returns-clause-set c =
    let old = c.args.store.now in
    let count = c.domain-count.result in
    let below = c.args.below in
    let children = take count (replicate 64 below) in
    let every = λ (value : ℕ). true in
    ok_then c.node.result (λ id. (word : List ℕ) → has c.node.new.self id word ≡ leads old children word) (λ id. (word : List ℕ) → has c.node.new.self id word ≡ leads_on old (get_or (domains_of old) c.args.layer 0) every below word)
    (λ id h word.
    h word ∙ children_lead old every below below count children (first_children every below below count 64 (replicate 64 below) c.domain-count.ensures.is_domain.few_values (same_children below below 64)) (λ value e. absurd (true≢false e)) word
    ∙ ap (λ n. leads_on old n every below word) c.domain-count.ensures.domain)
    c.node.ensures.set
