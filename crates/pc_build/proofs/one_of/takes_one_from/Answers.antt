use Rattle.std.proofs.Common.{◌≡◌, ◌∙◌, ◌&&◌, ◌+◌, ◌-◌, ◌<◌, ℕ, List, length, get_or, ap, sym, drop, arith}
use Rattle.std.specs.List.{list_any}
use Rattle.std.proofs.lemmas.List.{get_or-drop, drop-drop, length-drop}
use Rattle.pc_diagram.specs.Words.{is_word}
use Rattle.pc_diagram.specs.Fitting.{takes}
use Rattle.pc_store.specs.Sets.{domains_of, has}
use Rattle.pc_apply.proofs.ProductLemmas.{ok_then}
use Rattle.pc_build.proofs.ChainLemmas.{one_of_words}
use Rattle.pc_build.proofs.one_of.takes_one_from.Goals as goal

pub returns-clause-set : goal.returns-clause-set
returns-clause-set c =
    let old = c.args.store.now in
    let mid = c.branch-store.new.store in
    let now = c.widen.new.store in
    let layer = c.args.layer in
    let all = domains_of old in
    let domains : List ℕ = drop layer all in
    let order = c.requires.order in
    let inner = c.requires.inner in
    let place = c.args.variable - layer in
    let values = c.args.values.now in
    let set = c.in_ok-set.set in
    let at : layer + place ≡ c.args.variable = omega arith in
    let within : place < length domains = omega (arith, length-drop layer all) in
    let count_is : get_or all c.args.variable 0 ≡ get_or domains place 0 = ap (λ n. get_or all n 0) (sym at) ∙ sym (get_or-drop layer all place 0) in
    let after : c.layer_after.result ≡ layer + (place + 1) = c.layer_after.ensures ∙ (let e : c.args.variable + 1 ≡ layer + (place + 1) = omega arith in e) in
    let full = λ (w : List ℕ). c.full-rest.ensures.set w ∙ ap (λ n. is_word (drop n all) w) after ∙ ap (λ d. is_word d w) (sym (drop-drop (place + 1) layer all)) in
    ok_then c.widen.result (λ id. (word : List ℕ) → has now id word ≡ (is_word (drop layer (domains_of mid)) word && has mid set (drop place word))) (λ id. (word : List ℕ) → has now id word ≡ (is_word domains word && list_any (takes word place) values))
    (λ id h word.
    h word ∙ ap (λ d. is_word (drop layer d) word && has mid set (drop place word)) c.in_ok-set.ensures.keeps.domains
    ∙ ap (λ b. is_word domains word && b) (c.in_ok-set.ensures.set (drop place word))
    ∙ one_of_words old domains place (get_or all c.args.variable 0) values c.full-rest.result word within count_is full)
    c.widen.ensures.set
