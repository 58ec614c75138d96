use Rattle.std.proofs.Common.{◌≡◌, List, sym, subst, take, get_or, ◌+◌}
use Rattle.std.proofs.lemmas.List.{get_or_default}
use Rattle.pc_apply.specs.declared.pair.Pair.{Pair}
use Rattle.pc_apply.specs.declared.plan.Plan.{Plan}
use Rattle.pc_apply.specs.Levels.{EachFits}
use Rattle.pc_apply.specs.Pairs.{pairs_at}
use Rattle.pc_apply.proofs.LevelLemmas.{each_fits_more, read_stands}
use Rattle.pc_apply.proofs.pair_level.plan_pairs.Goals as goal

pub plan_pair-requires-clause-sets : goal.plan_pair-requires-clause-sets
plan_pair-requires-clause-sets c =
    let none : Pair = record { left = record { number = 0 }; right = record { number = 0 } } in
    let i = c.loop-pair.pair-index in
    let pair : Pair = get_or c.args.pairs.now i none in
    let read : pair ≡ get_or c.args.pairs.now i pair = get_or_default c.args.pairs.now i none pair c.loop-pair-test.true in
    c.requires.sets i pair (read_stands c.args.pairs.now i pair c.loop-pair-test.true read)

pub loop-pair-preserved : goal.loop-pair-preserved
loop-pair-preserved c =
    let none : Pair = record { left = record { number = 0 }; right = record { number = 0 } } in
    let i = c.loop-pair.pair-index in
    let pair : Pair = get_or c.args.pairs.now i none in
    let read : pair ≡ get_or c.args.pairs.now i pair = get_or_default c.args.pairs.now i none pair c.loop-pair-test.true in
    let store = c.args.store.now in
    let question = pairs_at store c.args.layer c.args.operation in
    let next_question = pairs_at store (c.args.layer + 1) c.args.operation in
    subst (EachFits store c.args.layer question next_question (take (i + 1) c.args.pairs.now) c.plan_pair.new.below.keys c.plan_pair.new.targets.items) (sym {A = List Plan} c.in_ok-push.ensures.items)
    (each_fits_more store c.args.layer question next_question c.args.pairs.now i pair c.loop-pair.below.keys c.plan_pair.new.below.keys c.loop-pair.targets.items c.plan_pair.new.targets.items c.loop-pair.plans.items c.in_ok-plan_pair.field-0
    c.loop-pair-test.true read c.loop-pair.invariant c.in_ok-plan_pair.ensures.more c.in_ok-plan_pair.ensures.plan)
