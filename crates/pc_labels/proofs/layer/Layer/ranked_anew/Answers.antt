use Rattle.std.proofs.Common.{◌+◌, All, subst, arith}
use Rattle.pc_labels.specs.Marks.{Marks}
use Rattle.pc_labels.specs.Ranks.{IsAmong}
use Rattle.pc_labels.specs.Slots.{AreRanksAnew}
use Rattle.pc_labels.proofs.RankLemmas.{ranks_anew}
use Rattle.pc_labels.proofs.layer.Layer.ranked_anew.Goals as goal

pub returns-clause-anew : goal.returns-clause-anew
returns-clause-anew c =
    let old : Marks = record { weights = c.self.inside.weights.items; steps = c.self.inside.steps.items; limit = c.self.inside.limit } in
    let new : Marks = record { weights = c.loop-weight.weights.items; steps = c.in_ok-from_slice.field-0.items; limit = c.len-2.result + 1 } in
    subst (λ o. AreRanksAnew o new) c.self.view_is
    (ranks_anew c.in_ok-ranks.ranks.items old new (omega (arith, c.loop-weight.invariant.nodes, c.loop-weight-test.false, c.loop-weight.auto.weight-index-end, c.as_slice-weight-items.ensures.len))
    (subst (All (IsAmong c.in_ok-ranks.ranks.items)) c.as_slice.ensures.value c.in_ok-ranks.ensures.all)
    (λ node lt. c.loop-weight.invariant.each node (omega (arith, lt, c.loop-weight-test.false, c.loop-weight.auto.weight-index-end, c.as_slice-weight-items.ensures.len))))
