use Rattle.std.proofs.Common.{◌≡◌, ◌∙◌, ◌&&◌, ◌-◌, ℕ, List, ap, arith}
use Rattle.std.specs.List.{list_any}
use Rattle.pc_diagram.specs.Words.{is_word}
use Rattle.pc_diagram.specs.Fitting.{takes}
use Rattle.pc_store.specs.Sets.{domains_of, has}
use Rattle.pc_apply.proofs.ProductLemmas.{ok_then}
use Rattle.pc_build.proofs.one_of.takes_one_of.Goals as goal

pub returns-clause-set : goal.returns-clause-set
returns-clause-set c =
    let now = c.takes_one_from.new.store in
    let domains = domains_of c.args.store.now in
    let values = c.args.values.now in
    let whole : c.args.variable - 0 ≡ c.args.variable = omega arith in
    ok_then c.takes_one_from.result (λ id. (word : List ℕ) → has now id word ≡ (is_word domains word && list_any (takes word (c.args.variable - 0)) values)) (λ id. (word : List ℕ) → has now id word ≡ (is_word domains word && list_any (takes word c.args.variable) values))
    (λ id h word. h word ∙ ap (λ n. is_word domains word && list_any (takes word n) values) whole)
    c.takes_one_from.ensures.set
