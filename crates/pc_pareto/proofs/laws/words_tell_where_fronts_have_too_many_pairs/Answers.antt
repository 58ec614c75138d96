-- Each node's front is that of its class.
use Rattle.pc_pareto.proofs.WordFrontLemmas.{limits_agree}
use Rattle.pc_pareto.proofs.laws.words_tell_where_fronts_have_too_many_pairs.Goals as goal

pub returns : goal.returns
returns c raw costs choices most side canonical = limits_agree raw canonical costs choices most side
