use Rattle.std.proofs.Common.{[], ◌∷◌, ◌≡◌, ◌<◌, ◌+◌, ◌&&◌, ℕ, List, true, ◌∙◌, length, get_or, drop, All, ap, sym, subst, arith}
use Rattle.std.proofs.lemmas.List.{get_or_default}
use Rattle.pc_diagram.specs.Words.{is_word}
use Rattle.pc_store.specs.declared.id.Id.{Id}
use Rattle.pc_store.specs.Sets.{domains_of, IsIdAt, has, leads}
use Rattle.pc_store.proofs.SetLemmas.{keeps_same, keeps_then}
use Rattle.pc_apply.proofs.ProductLemmas.{ok_then}
use Rattle.pc_build.specs.declared.demand.Demand.{Demand}
use Rattle.pc_build.specs.Chains.{leads_on}
use Rattle.pc_build.specs.Demands.{some_meets}
use Rattle.pc_build.proofs.WordLemmas.{and_true}
use Rattle.pc_build.proofs.BranchLemmas.{branches_none, branches_more, branches_at}
use Rattle.pc_build.proofs.TrieLemmas.{RestBranches, branches_words, free_words, ends_all, ends_none}
use Rattle.pc_build.proofs.trie.+meeting_some.Goals as goal

pub returns-then-ends-clause-set : goal.returns-then-ends-clause-set
returns-then-ends-clause-set t c = λ word.
    c.full.ensures.set word
    ∙ sym (and_true (is_word (drop c.args.layer (domains_of c.args.store.now)) word))
    ∙ ap (λ b. is_word (drop c.args.layer (domains_of c.args.store.now)) word && b) (sym (ends_all c.args.rows.now (sym c.ends.ensures ∙ c.if-ends.true) word))

pub returns-then-layer-variables-clause-set : goal.returns-then-layer-variables-clause-set
returns-then-layer-variables-clause-set t c = λ word.
    c.empty-then-layer-variables.ensures.set word
    ∙ sym (ends_none c.args.rows.now c.args.layer (domains_of c.args.store.now) (let test = c.if-layer-variables.true in let count = c.variables.ensures.count in omega arith) (sym c.ends.ensures ∙ c.if-ends.false) word)

pub meeting_some-requires : goal.meeting_some-requires
meeting_some-requires t c =
    let other = c.if-layer-variables.false in
    let count = c.variables.ensures.count in
    let inside = c.requires in
    let falls = c.decreases in
    (omega arith, omega arith)

pub lengthen-requires-clause-inner : goal.lengthen-requires-clause-inner
lengthen-requires-clause-inner t c =
    let other = c.if-layer-variables.false in
    let count = c.variables.ensures.count in
    let inside = c.requires in
    let same = ap length c.in_ok-below.ensures.keeps.domains in
    omega arith

pub returns-then-are_free-clause-set : goal.returns-then-are_free-clause-set
returns-then-are_free-clause-set t c =
    let other = c.if-layer-variables.false in
    let count = c.variables.ensures.count in
    let inside = c.requires in
    let old = c.args.store.now in
    let mid = c.meeting_some.new.store in
    let now = c.lengthen.new.store in
    let layer = c.args.layer in
    let rows = c.args.rows.now in
    let rest : List (List Demand) = c.in_ok-rest.rest in
    let below = c.in_ok-below.below in
    let lt : layer < length (domains_of old) = omega arith in
    let words = λ (word : List ℕ). c.in_ok-below.ensures.set word ∙ ap (λ (rs : List (List Demand)). is_word (drop (layer + 1) (domains_of old)) word && some_meets rs word) c.as_slice.ensures in
    ok_then c.lengthen.result (λ id. (word : List ℕ) → has now id word ≡ leads_on mid (get_or (domains_of mid) layer 0) (λ value. true) below word) (λ id. (word : List ℕ) → has now id word ≡ (is_word (drop layer (domains_of old)) word && some_meets rows word))
    (λ id h word. h word ∙ free_words old mid layer rows rest below word lt c.in_ok-below.ensures.keeps (c.are_free.ensures c.if-are_free.true) c.in_ok-rest.ensures words)
    c.lengthen.ensures.set

pub returns-then-are_free-clause-keeps : goal.returns-then-are_free-clause-keeps
returns-then-are_free-clause-keeps t c = keeps_then c.args.store.now c.meeting_some.new.store c.lengthen.new.store c.in_ok-below.ensures.keeps c.lengthen.ensures.keeps

pub loop-value-init : goal.loop-value-init
loop-value-init t c = subst (RestBranches c.args.store.now c.args.store.now c.args.layer c.args.rows.now 0) (sym c.new-children.ensures.items) (branches_none c.args.store.now (c.args.layer + 1) (λ value word. some_meets c.args.rows.now (value ∷ word)) (keeps_same c.args.store.now))

pub meeting_some-requires-in-loop-value : goal.meeting_some-requires-in-loop-value
meeting_some-requires-in-loop-value t c =
    let other = c.if-layer-variables.false in
    let count = c.variables.ensures.count in
    let inside = c.requires in
    let falls = c.decreases in
    let same = ap length c.loop-value.invariant.keeps.domains in
    (omega arith, omega arith)

pub loop-value-preserved : goal.loop-value-preserved
loop-value-preserved t c =
    let old = c.args.store.now in
    let mid = c.loop-value.store in
    let now = c.meeting_some-in-loop-value.new.store in
    let layer = c.args.layer in
    let rows = c.args.rows.now in
    let id = c.in_ok-meeting_some.field-0 in
    let children : List Id = c.loop-value.children.items in
    let value = c.loop-value.value in
    let rests : List (List (List Demand)) = c.in_ok-rests.rests.items in
    let lower = c.loop-value-test.true in
    let count = c.domain.ensures.domain in
    let again = c.domain-value-end.ensures.domain in
    let wide = c.in_ok-rests.ensures.width in
    let within : value < c.domain.result = omega arith in
    let inside : value < length rests = omega arith in
    let rest : c.as_slice-rest.result.now ≡ get_or rests value [] = c.as_slice-rest.ensures ∙ c.index.ensures ∙ sym (get_or_default rests value [] c.index.result.now inside) in
    let words = λ (word : List ℕ).
    c.in_ok-meeting_some.ensures.set word
    ∙ ap (λ b. is_word (drop (layer + 1) (domains_of mid)) word && b) (ap (λ (rs : List (List Demand)). some_meets rs word) rest ∙ c.in_ok-rests.ensures.goes value word within) in
    subst (RestBranches old now layer rows (c.loop-value.value + 1)) (sym {A = List Id} c.in_ok-push.ensures.items)
    (branches_more old mid now (layer + 1) (λ value word. some_meets rows (value ∷ word)) c.loop-value.value children id c.loop-value.invariant c.in_ok-meeting_some.ensures.keeps c.in_ok-meeting_some.ensures.is_id words)

pub node-requires-clause-inner : goal.node-requires-clause-inner
node-requires-clause-inner t c =
    let other = c.if-layer-variables.false in
    let count = c.variables.ensures.count in
    let inside = c.requires in
    let same = ap length c.loop-value.invariant.keeps.domains in
    omega arith

pub node-requires-clause-width : goal.node-requires-clause-width
node-requires-clause-width t c =
    let low = c.loop-value-test.false in
    let high = c.loop-value.auto.value-end in
    let count = c.domain-value-end.ensures.domain in
    let end : c.loop-value.value ≡ get_or (domains_of c.args.store.now) c.args.layer 0 = omega arith in
    ap length c.as_slice-2.ensures.value ∙ c.loop-value.invariant.width ∙ end ∙ ap (λ d. get_or d c.args.layer 0) (sym c.loop-value.invariant.keeps.domains)

pub node-requires-clause-below : goal.node-requires-clause-below
node-requires-clause-below t c =
    subst (All (IsIdAt c.loop-value.store (c.args.layer + 1))) (sym c.as_slice-2.ensures.value)
    (branches_at c.args.store.now c.loop-value.store (c.args.layer + 1) (λ value word. some_meets c.args.rows.now (value ∷ word)) c.loop-value.value c.loop-value.children.items c.loop-value.invariant)

pub returns-clause-set : goal.returns-clause-set
returns-clause-set t c =
    let other = c.if-layer-variables.false in
    let variables = c.variables.ensures.count in
    let inside = c.requires in
    let low = c.loop-value-test.false in
    let high = c.loop-value.auto.value-end in
    let count = c.domain-value-end.ensures.domain in
    let old = c.args.store.now in
    let mid = c.loop-value.store in
    let now = c.node.new.self in
    let layer = c.args.layer in
    let rows = c.args.rows.now in
    let children : List Id = c.loop-value.children.items in
    let lt : layer < length (domains_of old) = omega arith in
    let end : c.loop-value.value ≡ get_or (domains_of old) layer 0 = omega arith in
    let all : RestBranches old mid layer rows (get_or (domains_of old) layer 0) children = subst (λ n. RestBranches old mid layer rows n children) end c.loop-value.invariant in
    ok_then c.node.result (λ id. (word : List ℕ) → has now id word ≡ leads mid c.as_slice-2.result.now word) (λ id. (word : List ℕ) → has now id word ≡ (is_word (drop layer (domains_of old)) word && some_meets rows word))
    (λ id h word. h word ∙ ap (λ (l : List Id). leads mid l word) c.as_slice-2.ensures.value ∙ branches_words old mid layer rows children word lt all)
    c.node.ensures.set

pub returns-clause-keeps : goal.returns-clause-keeps
returns-clause-keeps t c = keeps_then c.args.store.now c.loop-value.store c.node.new.self c.loop-value.invariant.keeps c.node.ensures.keeps
