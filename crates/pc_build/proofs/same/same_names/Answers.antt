use Rattle.std.proofs.Common.{◌≡◌, ◌∙◌, ◌&&◌, ◌<◌, ℕ, List, length, ap, sym, arith}
use Rattle.std.proofs.lemmas.List.{length-map}
use Rattle.pc_diagram.specs.Words.{is_word}
use Rattle.pc_store.specs.Sets.{domains_of, has}
use Rattle.pc_apply.proofs.LevelLemmas.{read_stands}
use Rattle.pc_apply.proofs.ProductLemmas.{ok_then}
use Rattle.pc_file.specs.declared.variable.Value.{Value}
use Rattle.pc_file.specs.declared.variable.Variable.{Variable}
use Rattle.pc_file.specs.Names.{taken_name}
use Rattle.pc_file.specs.Rule.{same_name}
use Rattle.pc_build.specs.Named.{name_at}
use Rattle.pc_build.proofs.SameLemmas.{same_name-swap, taken_name_is}
use Rattle.pc_build.proofs.same.same_names.Goals as goal

pub returns-then-other-variable-clause-set : goal.returns-then-other-variable-clause-set
returns-then-other-variable-clause-set c =
    let now = c.names_agree-then-other-variable.new.store in
    let domains = domains_of c.args.store.now in
    let variables = c.args.variables.now in
    let variable = c.args.variable in
    let other = c.args.other in
    let one : Variable = c.index-variables-variable.result in
    let two : Variable = c.index-variables-other.result in
    let values : List Value = c.as_slice-values.result.now in
    let others : List Value = c.as_slice-others.result.now in
    let count = ap length c.requires.domains ∙ length-map variables (λ (v : Variable). length v.values) in
    let first : variable < length variables = (let l = c.requires.first in omega (arith, count)) in
    let second : other < length variables = (let l = c.requires.second in omega (arith, count)) in
    let here = λ (word : List ℕ). taken_name_is variables variable one word (read_stands variables variable one first c.index-variables-variable.is) ∙ ap (λ (v : Variable). name_at v.values word variable) c.index-variables-variable.is ∙ ap (λ (l : List Value). name_at l word variable) (sym c.as_slice-values.ensures) in
    let there = λ (word : List ℕ). taken_name_is variables other two word (read_stands variables other two second c.index-variables-other.is) ∙ ap (λ (v : Variable). name_at v.values word other) c.index-variables-other.is ∙ ap (λ (l : List Value). name_at l word other) (sym c.as_slice-others.ensures) in
    ok_then c.names_agree-then-other-variable.result (λ id. (word : List ℕ) → has now id word ≡ (is_word domains word && same_name (name_at others word other) (name_at values word variable))) (λ id. (word : List ℕ) → has now id word ≡ (is_word domains word && same_name (taken_name variables word variable) (taken_name variables word other)))
    (λ id h word.
    h word ∙ ap (λ b. is_word domains word && b) (same_name-swap (name_at others word other) (name_at values word variable) ∙ sym (λ i. same_name (here word i) (there word i))))
    c.names_agree-then-other-variable.ensures.set
