-- By the lemmas on words.
use Rattle.pc_diagram.proofs.EqualWords.{over_domains, some_words}
use Rattle.pc_diagram.proofs.diagram_laws.words_are_over_the_domains.Goals as goal

pub returns-clause-over : goal.returns-clause-over
returns-clause-over c = over_domains

pub returns-clause-some : goal.returns-clause-some
returns-clause-some c = some_words
