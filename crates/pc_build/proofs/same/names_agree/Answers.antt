use Rattle.std.proofs.Common.{◌≡◌, ◌∙◌, ◌&&◌, ◌+◌, ◌-◌, ◌<◌, ℕ, Some, List, All, length, drop, ap, sym, subst, arith}
use Rattle.std.specs.Option.{option_map}
use Rattle.pc_diagram.specs.Words.{is_word}
use Rattle.pc_store.specs.declared.id.Id.{Id}
use Rattle.pc_store.specs.Sets.{domains_of, has, leads, IsIdAt}
use Rattle.pc_apply.proofs.LevelLemmas.{read_stands}
use Rattle.pc_apply.proofs.ProductLemmas.{ok_then}
use Rattle.pc_file.specs.declared.variable.Value.{Value}
use Rattle.pc_file.specs.Rule.{same_name}
use Rattle.pc_build.specs.Named.{name_of, name_at}
use Rattle.pc_build.proofs.BranchLemmas.{branches_at}
use Rattle.pc_build.proofs.SameLemmas.{Rests, rests_more, same_from, same_words}
use Rattle.pc_build.proofs.same.names_agree.Goals as goal

pub loop-value-preserved : goal.loop-value-preserved
loop-value-preserved c =
    let old = c.args.store.now in
    let mid = c.loop-value.store in
    let now = c.takes_name_from.new.store in
    let second = c.args.second in
    let layer = c.args.first + 1 in
    let values = c.args.values.now in
    let others = c.args.others.now in
    let i = c.loop-value.value-index in
    let value : Value = c.value-item.result in
    let id = c.in_ok-takes_name_from.field-0 in
    let rests : List Id = c.loop-value.rests.items in
    let at = c.layer_after-layer.ensures in
    let named : name_of values i ≡ Some value.name = ap (option_map (λ v. v.name)) (read_stands values i value c.loop-value-test.true c.value-item.is) in
    subst (Rests old now layer (second - layer) values others (i + 1)) (sym {A = List Id} c.in_ok-push.ensures.items)
    (rests_more old mid now layer (second - layer) values others i rests id value.name c.loop-value.invariant named c.in_ok-takes_name_from.ensures.keeps (subst (λ n. IsIdAt now n id) at c.in_ok-takes_name_from.ensures.is_id)
    (λ word. c.in_ok-takes_name_from.ensures.set word ∙ ap (λ n. is_word (drop n (domains_of mid)) word && same_name (Some value.name) (name_at others word (second - n))) at))

pub node-requires-clause-below : goal.node-requires-clause-below
node-requires-clause-below c =
    let layer = c.args.first + 1 in
    subst (All (IsIdAt c.loop-value.store layer)) (sym c.as_slice.ensures.value)
    (branches_at c.args.store.now c.loop-value.store layer (λ value word. same_name (name_of c.args.values.now value) (name_at c.args.others.now word (c.args.second - layer))) c.loop-value.value-index c.loop-value.rests.items c.loop-value.invariant)

pub returns-clause-set : goal.returns-clause-set
returns-clause-set c =
    let old = c.args.store.now in
    let mid = c.loop-value.store in
    let now = c.node.new.self in
    let last = c.widen.new.store in
    let domains = domains_of old in
    let first = c.args.first in
    let second = c.args.second in
    let distance = second - (first + 1) in
    let values = c.args.values.now in
    let others = c.args.others.now in
    let rests : List Id = c.loop-value.rests.items in
    let set = c.in_ok-set.set in
    let order = c.requires.order in
    let inner = c.requires.inner in
    let lt : first < length domains = omega arith in
    let end : c.loop-value.value-index ≡ length values = (let past = c.loop-value-test.false in let most = c.loop-value.auto.value-index-end in omega arith) in
    let all : Rests old mid (first + 1) distance values others (length values) rests = subst (λ n. Rests old mid (first + 1) distance values others n rests) end c.loop-value.invariant in
    let whole : first - 0 ≡ first = omega arith in
    let here = λ (word : List ℕ). c.in_ok-set.ensures.set word ∙ ap (λ l. leads mid l word) c.as_slice.ensures.value ∙ same_from old mid first distance values others rests word lt c.requires.first all in
    ok_then c.widen.result (λ id. (word : List ℕ) → has last id word ≡ (is_word (domains_of now) word && has now set (drop (first - 0) word))) (λ id. (word : List ℕ) → has last id word ≡ (is_word domains word && same_name (name_at values word first) (name_at others word second)))
    (λ id h word.
    h word ∙ ap (λ n. is_word (domains_of now) word && has now set (drop n word)) whole
    ∙ ap (λ d. is_word d word && has now set (drop first word)) (c.in_ok-set.ensures.keeps.domains ∙ c.loop-value.invariant.keeps.domains)
    ∙ ap (λ b. is_word domains word && b) (here (drop first word))
    ∙ same_words domains first second values others word order)
    c.widen.ensures.set
