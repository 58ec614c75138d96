use Rattle.std.proofs.Common.{◌+◌, ◌∙◌, sym, subst, slice_index}
use Rattle.pc_store.specs.Sets.{domains_of}
use Rattle.pc_apply.specs.Levels.{LeadsFrom}
use Rattle.pc_apply.specs.Pairs.{HasBoth, pairs_at}
use Rattle.pc_apply.proofs.LevelLemmas.{planned_none}
use Rattle.pc_apply.proofs.pair_level.plan_pair.Goals as goal

pub returns-in-Some-clause-more : goal.returns-in-Some-clause-more
returns-in-Some-clause-more c = planned_none (HasBoth c.args.store.now (c.args.layer + 1)) c.args.below.now.keys c.args.targets.now.items c.requires.below

pub returns-in_ok-expand_pair-in-None-clause-plan : goal.returns-in_ok-expand_pair-in-None-clause-plan
returns-in_ok-expand_pair-in-None-clause-plan c =
    let question = pairs_at c.args.store.now c.args.layer c.args.operation in
    let next_question = pairs_at c.args.store.now (c.args.layer + 1) c.args.operation in
    subst (λ first. LeadsFrom c.args.store.now c.args.layer question next_question c.args.pair c.expand_pair.new.below.keys c.expand_pair.new.targets.items first (slice_index (domains_of c.args.store.now) c.args.layer))
    (sym (c.in_ok-first-in-None.ensures ∙ c.len.ensures ∙ c.args.targets.now.ok.0)) (c.in_ok-expand_pair-in-None.ensures.leads c.args.operation)
