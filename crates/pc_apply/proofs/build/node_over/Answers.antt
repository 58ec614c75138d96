use Rattle.std.proofs.Common.{◌+◌, All, subst, sym}
use Rattle.pc_store.specs.Sets.{IsIdAt}
use Rattle.pc_apply.proofs.BuildLemmas.{picks_hold}
use Rattle.pc_apply.proofs.build.node_over.Goals as goal

pub node-requires-clause-below : goal.node-requires-clause-below
node-requires-clause-below c =
    subst (All (IsIdAt c.args.store.now (c.args.layer + 1))) (sym c.as_slice.ensures.value)
    (picks_hold (IsIdAt c.args.store.now (c.args.layer + 1)) c.args.below.now c.args.places.now c.pick.new.ids.items c.in_ok-pick.ensures c.requires.in_range c.requires.below)
