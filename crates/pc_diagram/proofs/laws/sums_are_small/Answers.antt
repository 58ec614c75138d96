-- By the lemma on costs.
use Rattle.pc_diagram.proofs.CostLemmas.{cost-IsSum}
use Rattle.pc_diagram.proofs.laws.sums_are_small.Goals as goal

pub returns : goal.returns
returns c = cost-IsSum
