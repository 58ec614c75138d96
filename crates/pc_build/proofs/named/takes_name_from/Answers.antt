use Rattle.std.proofs.Common.{◌≡◌, ◌∙◌, ◌&&◌, ◌-◌, ◌<◌, ℕ, Some, List, length, drop, ap, nat_eq, arith}
use Rattle.std.specs.List.{list_any}
use Rattle.std.proofs.lemmas.List.{length-drop}
use Rattle.pc_diagram.specs.Words.{is_word}
use Rattle.pc_diagram.specs.Fitting.{takes}
use Rattle.pc_store.specs.Sets.{domains_of, has}
use Rattle.pc_apply.proofs.ProductLemmas.{ok_then}
use Rattle.pc_file.specs.Rule.{same_name}
use Rattle.pc_build.specs.Named.{name_at}
use Rattle.pc_build.proofs.NamedLemmas.{named_words}
use Rattle.pc_build.proofs.named.takes_name_from.Goals as goal

pub returns-clause-set : goal.returns-clause-set
returns-clause-set c =
    let now = c.takes_one_from.new.store in
    let all = domains_of c.args.store.now in
    let domains : List ℕ = drop c.args.layer all in
    let place = c.args.variable - c.args.layer in
    let values = c.args.values.now in
    let name = c.args.name.now in
    let places : List ℕ = c.as_slice.result.now in
    let order = c.requires.order in
    let inner = c.requires.inner in
    let within : place < length domains = omega (arith, length-drop c.args.layer all) in
    let named = λ (value : ℕ). ap (list_any (nat_eq value)) c.as_slice.ensures.value ∙ c.in_ok-places.ensures value in
    ok_then c.takes_one_from.result (λ id. (word : List ℕ) → has now id word ≡ (is_word domains word && list_any (takes word place) places)) (λ id. (word : List ℕ) → has now id word ≡ (is_word domains word && same_name (Some name) (name_at values word place)))
    (λ id h word. h word ∙ named_words domains values name places place word within named)
    c.takes_one_from.ensures.set
