-- By the lemmas on counts.
use Rattle.pc_diagram.proofs.CountLemmas.{layer_counted, all_counted}
use Rattle.pc_diagram.proofs.diagram_laws.nodes_are_counted_by_rests.Goals as goal

pub returns-clause-layer : goal.returns-clause-layer
returns-clause-layer c = layer_counted

pub returns-clause-all : goal.returns-clause-all
returns-clause-all c = all_counted
