-- Items stay, or their front.
use Rattle.pc_pareto.proofs.ReducedLemmas.{front_reduced, same_reduced}
use Rattle.pc_pareto.proofs.stage.reduce.Goals as goal

pub returns-then-len-most : goal.returns-then-len-most
returns-then-len-most c = same_reduced c.args.items.now.items
