use Rattle.pc_diagram.proofs.LeastWords.{best-least, least-best}
use Rattle.pc_diagram.proofs.diagram_laws.best_is_the_least_word.Goals as goal

pub returns : goal.returns
returns c costs test domains word = (best-least costs test domains word, least-best costs test domains word)
