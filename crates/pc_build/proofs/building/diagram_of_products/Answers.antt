use Rattle.pc_build.proofs.ProductLemmas.{some_word, words_are_products}
use Rattle.pc_build.proofs.building.diagram_of_products.Goals as goal

pub diagram_of-requires-clause-some : goal.diagram_of-requires-clause-some
diagram_of-requires-clause-some c = some_word c.in_ok-made.made.store c.args.file.now c.in_ok-made.made.set c.in_ok-made.ensures.domains c.in_ok-made.ensures.set c.in_ok-made.ensures.some

pub diagram_of-requires-clause-few : goal.diagram_of-requires-clause-few
diagram_of-requires-clause-few c = c.in_ok-made.ensures.nodes

pub returns-in-Ok-clause-words : goal.returns-in-Ok-clause-words
returns-in-Ok-clause-words c = words_are_products c.in_ok-made.made.store c.args.file.now c.in_ok-made.made.set c.in-Ok.diagram c.in_ok-made.ensures.domains c.in_ok-made.ensures.set c.in-Ok.ensures.domains c.in-Ok.ensures.words
