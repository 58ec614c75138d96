-- By the lemma on equal words.
use Rattle.pc_diagram.proofs.EqualWords.{equal_words}
use Rattle.pc_diagram.proofs.diagram_laws.equal_words_have_one_diagram.Goals as goal

pub returns : goal.returns
returns c = equal_words
