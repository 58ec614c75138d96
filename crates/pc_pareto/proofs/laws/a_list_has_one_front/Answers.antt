use Rattle.pc_pareto.specs.Front.{front}
use Rattle.pc_pareto.proofs.PairLemmas.{one_front}
use Rattle.pc_pareto.proofs.FrontLemmas.{front_is, pairs_are_front}
use Rattle.pc_pareto.proofs.laws.a_list_has_one_front.Goals as goal

pub returns : goal.returns
returns c = record {
  is_one = front_is;
  one = λ pairs kept h. one_front pairs kept (front pairs) h (front_is pairs);
  items = pairs_are_front;
}
