use Rattle.std.proofs.Common.{◌<◌, ◌≤◌, ◌∙◌, ◌&&◌, ℕ, List, length, All, sym, ap, subst}
use Rattle.pc_diagram.specs.Words.{is_word}
use Rattle.pc_diagram.specs.declared.limits.TheConstants.{MOST_VARIABLES}
use Rattle.pc_store.specs.Layered.{IsDomain}
use Rattle.pc_store.specs.Sets.{domains_of, has}
use Rattle.pc_store.proofs.SetLemmas.{words_are_over}
use Rattle.pc_conjunction.proofs.NewLemmas.{among_words}
use Rattle.pc_conjunction.proofs.conjunction.Conjunction.of.Goals as goal

pub new-requires-clause-some : goal.new-requires-clause-some
new-requires-clause-some c = subst (λ (l : List ℕ). 0 < length l) (sym {A = List ℕ} c.as_slice.ensures) c.in_ok-domains.ensures.some

pub new-requires-clause-few : goal.new-requires-clause-few
new-requires-clause-few c = subst (λ (l : List ℕ). length l ≤ MOST_VARIABLES) (sym {A = List ℕ} c.as_slice.ensures) c.in_ok-domains.ensures.few

pub new-requires-clause-sizes : goal.new-requires-clause-sizes
new-requires-clause-sizes c = subst (All IsDomain) (sym {A = List ℕ} c.as_slice.ensures) c.in_ok-domains.ensures.sizes

pub narrowed-requires-clause-domains : goal.narrowed-requires-clause-domains
narrowed-requires-clause-domains c = sym (c.in_ok-all.ensures.domains ∙ c.as_slice.ensures ∙ c.in_ok-domains.ensures.domains)

pub returns-clause-domains : goal.returns-clause-domains
returns-clause-domains c = c.in_ok-narrowed.ensures.domains ∙ c.in_ok-all.ensures.domains ∙ c.as_slice.ensures ∙ c.in_ok-domains.ensures.domains

pub returns-clause-words : goal.returns-clause-words
returns-clause-words c = λ word.
    c.in_ok-narrowed.ensures.words word ∙ ap (λ b. b && has c.args.store.now c.args.set word) (c.in_ok-all.ensures.words word ∙ ap (λ (d : List ℕ). is_word d word) (c.as_slice.ensures ∙ c.in_ok-domains.ensures.domains))
    ∙ among_words (is_word (domains_of c.args.store.now) word) (has c.args.store.now c.args.set word) (words_are_over c.args.store.now 0 c.args.set c.requires word)
