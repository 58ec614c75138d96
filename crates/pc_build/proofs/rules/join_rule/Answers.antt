use Rattle.std.proofs.Common.{◌&&◌, ◌∷◌, [], ◌∙◌, ℕ, Bool, List, sym, subst}
use Rattle.std.proofs.lemmas.Result.{err_from_is_err_and}
use Rattle.pc_conjunction.specs.Conjunctions.{conjunction_domains}
use Rattle.pc_file.specs.Products.{value_counts}
use Rattle.pc_file.specs.Rule.{holds}
use Rattle.pc_file.specs.Parts.{parts_of}
use Rattle.pc_build.specs.Making.{Holds, AllMade, Stopped}
use Rattle.pc_build.proofs.JoinedLemmas.{both_hold}
use Rattle.pc_build.proofs.MakingLemmas.{all_made_both, stopped_first, stopped_second}
use Rattle.pc_build.proofs.rules.join_rule.Goals as goal

pub returns-in_err-own-clause-made : goal.returns-in_err-own-clause-made
returns-in_err-own-clause-made c = λ test h.
    let own : List ℕ → Bool = λ word. test word && holds c.args.variables.now word c.args.rule.now in
    let p = err_from_is_err_and c.from_residual.result c.from_residual.ensures.1 in
    (0, rw (p.1, p.2) (stopped_first (value_counts c.args.variables.now) (parts_of c.args.variables.now c.args.rule.now) (own ∷ []) 0 _ c.in_err-own.ensures.made))

pub narrowed-requires-clause-domains : goal.narrowed-requires-clause-domains
narrowed-requires-clause-domains c = c.set_of_rule.ensures.keeps.domains ∙ c.requires.domains ∙ sym c.requires.obeys

pub returns-in_err-counted-clause-made : goal.returns-in_err-counted-clause-made
returns-in_err-counted-clause-made c = λ test h.
    let domains = value_counts c.args.variables.now in
    let own : List ℕ → Bool = λ word. holds c.args.variables.now word c.args.rule.now in
    let both : List ℕ → Bool = λ word. test word && own word in
    let parts = parts_of c.args.variables.now c.args.rule.now in
    let there : Holds domains c.in_ok-both.both both = both_hold domains c.args.obeys.all c.in_ok-both.both c.set_of_rule.new.store c.in_ok-own.own test own (c.set_of_rule.ensures.keeps.domains ∙ c.requires.domains) h c.in_ok-own.ensures.set c.in_ok-both.ensures.domains c.in_ok-both.ensures.words in
    let again : Holds (conjunction_domains c.in_ok-both.both) c.in_ok-both.both both = subst (λ d. Holds d c.in_ok-both.both both) (sym there.domains_are) there in
    let p = err_from_is_err_and c.from_residual-in_err-counted.result c.from_residual-in_err-counted.ensures.1 in
    (0, rw (p.1, p.2) (stopped_second domains parts (both ∷ []) 0 c.set_of_rule.new.made _ c.in_ok-own.ensures.made (subst (λ d. Stopped d (both ∷ []) c.set_of_rule.new.made c.in_err-counted.field-0.0) there.domains_are (c.in_err-counted.ensures.made both again))))

pub returns-clause-words : goal.returns-clause-words
returns-clause-words c = λ test h.
    let domains = value_counts c.args.variables.now in
    let own : List ℕ → Bool = λ word. holds c.args.variables.now word c.args.rule.now in
    let both : List ℕ → Bool = λ word. test word && own word in
    let there : Holds domains c.in_ok-both.both both = both_hold domains c.args.obeys.all c.in_ok-both.both c.set_of_rule.new.store c.in_ok-own.own test own (c.set_of_rule.ensures.keeps.domains ∙ c.requires.domains) h c.in_ok-own.ensures.set c.in_ok-both.ensures.domains c.in_ok-both.ensures.words in
    let again : Holds (conjunction_domains c.in_ok-both.both) c.in_ok-both.both both = subst (λ d. Holds d c.in_ok-both.both both) (sym there.domains_are) there in
    subst (λ d. Holds d c.in_ok-counted.counted.all both) there.domains_are (c.in_ok-counted.ensures.words both again)

pub returns-clause-made : goal.returns-clause-made
returns-clause-made c = λ test h.
    let domains = value_counts c.args.variables.now in
    let own : List ℕ → Bool = λ word. holds c.args.variables.now word c.args.rule.now in
    let both : List ℕ → Bool = λ word. test word && own word in
    let parts = parts_of c.args.variables.now c.args.rule.now in
    let there : Holds domains c.in_ok-both.both both = both_hold domains c.args.obeys.all c.in_ok-both.both c.set_of_rule.new.store c.in_ok-own.own test own (c.set_of_rule.ensures.keeps.domains ∙ c.requires.domains) h c.in_ok-own.ensures.set c.in_ok-both.ensures.domains c.in_ok-both.ensures.words in
    let again : Holds (conjunction_domains c.in_ok-both.both) c.in_ok-both.both both = subst (λ d. Holds d c.in_ok-both.both both) (sym there.domains_are) there in
    (c.counted.new.made, all_made_both domains parts (both ∷ []) 0 c.set_of_rule.new.made c.counted.new.made c.in_ok-own.ensures.made (subst (λ d. AllMade d (both ∷ []) c.set_of_rule.new.made c.counted.new.made) there.domains_are (c.in_ok-counted.ensures.made both again)))
