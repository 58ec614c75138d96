use Rattle.std.proofs.Common.{Contains, sym, subst}
use Rattle.std.proofs.lemmas.List.Sorted.{Contains-permutation}
use Rattle.pc_labels.proofs.RankLemmas.{all_among, ascend_from}
use Rattle.pc_labels.proofs.layer.sorted_ranks.Goals as goal

pub returns-clause-ascend : goal.returns-clause-ascend
returns-clause-ascend c = ascend_from _ c.sort_unstable.ensures.sorted

pub returns-clause-all : goal.returns-clause-all
returns-clause-all c = all_among c.args.weights.now _ (λ r there. Contains-permutation c.in_ok-ranks.ranks.items _ r c.sort_unstable.ensures.permutation (subst (λ xs. Contains xs r) (sym c.in_ok-ranks.ensures) there))
