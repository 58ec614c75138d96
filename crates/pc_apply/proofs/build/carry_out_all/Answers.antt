use Rattle.std.proofs.Common.{List, ◌≡◌, sym, ap, subst, take, ◌+◌, slice_index, get_or}
use Rattle.std.proofs.lemmas.List.{get_or_default}
use Rattle.pc_store.specs.declared.id.Id.{Id}
use Rattle.pc_store.specs.Sets.{domains_of}
use Rattle.pc_apply.specs.declared.plan.Plan.{Plan}
use Rattle.pc_apply.specs.declared.plan.Plan.TheVariants.{Known}
use Rattle.pc_apply.specs.Levels.{CarriedOut}
use Rattle.pc_apply.proofs.LevelLemmas.{read_stands}
use Rattle.pc_apply.proofs.BuildLemmas.{Building, building_more}
use Rattle.pc_apply.proofs.build.carry_out_all.Goals as goal

pub loop-plan-preserved : goal.loop-plan-preserved
loop-plan-preserved c =
    let old = c.args.store.now in
    let mid = c.loop-plan.store in
    let plans = c.args.plans.now in
    let i = c.loop-plan.plan-index in
    let none : Id = record { layer = 0; node = 0 } in
    let plan : Plan = get_or plans i (Known none) in
    let read : plan ≡ get_or plans i plan = get_or_default plans i (Known none) plan c.loop-plan-test.true in
    let same : slice_index (domains_of mid) c.args.layer ≡ slice_index (domains_of old) c.args.layer = ap (λ d. slice_index d c.args.layer) c.loop-plan.invariant.keeps.domains in
    let one : CarriedOut mid c.carry_out.new.store c.args.layer c.args.targets.now (slice_index (domains_of mid) c.args.layer) c.args.below.now plan c.in_ok-carry_out.field-0 = c.in_ok-carry_out.ensures.id in
    let count = slice_index (domains_of old) c.args.layer in
    subst (Building old c.carry_out.new.store c.args.layer c.args.targets.now count c.args.below.now (take (i + 1) plans)) (sym {A = List Id} c.in_ok-push.ensures.items)
    (building_more old mid c.carry_out.new.store c.args.layer c.args.targets.now count c.args.below.now plans i plan c.loop-plan.ids.items c.in_ok-carry_out.field-0 c.loop-plan-test.true read c.requires.below
    (c.requires.plans i plan (read_stands plans i plan c.loop-plan-test.true read)) c.loop-plan.invariant
    (subst (λ n. CarriedOut mid c.carry_out.new.store c.args.layer c.args.targets.now n c.args.below.now plan c.in_ok-carry_out.field-0) same one) c.in_ok-carry_out.ensures.keeps)
