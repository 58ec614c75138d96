use Rattle.pc_diagram.proofs.PathLemmas.{word-parts, parts-word, cost-append}
use Rattle.pc_diagram.proofs.diagram_laws.heads_and_tails_make_words.Goals as goal

pub returns-clause-words : goal.returns-clause-words
returns-clause-words c raw choices head tail le = (word-parts raw choices head tail le, λ p. parts-word raw choices head tail le p.0 p.1 p.2)

pub returns-clause-costs : goal.returns-clause-costs
returns-clause-costs c = cost-append
