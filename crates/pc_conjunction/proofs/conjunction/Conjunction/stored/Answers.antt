use Rattle.std.proofs.Common.{◌∙◌, List, reverse, ap}
use Rattle.pc_conjunction.specs.declared.layer.Layer.{Layer}
use Rattle.pc_conjunction.specs.Places.{domains, accepts}
use Rattle.pc_conjunction.specs.Conjunctions.{conjunction_domains, contains}
use Rattle.pc_conjunction.proofs.conjunction.Conjunction.stored.Goals as goal

pub returns-clause-domains : goal.returns-clause-domains
unfolding conjunction_domains
returns-clause-domains c = c.in_ok-stored.ensures.domains ∙ ap (λ (ls : List Layer). domains (reverse ls)) c.as_slice.ensures ∙ ap conjunction_domains c.self.view_is

pub returns-clause-words : goal.returns-clause-words
unfolding contains
returns-clause-words c = λ word. c.in_ok-stored.ensures.words word ∙ ap (λ (ls : List Layer). accepts (reverse ls) 1 word) c.as_slice.ensures ∙ ap (λ (ls : List Layer). contains ls word) c.self.view_is
