use Rattle.std.proofs.Common.{List, take, sym, subst}
use Rattle.pc_build.specs.declared.demand.Demand.{Demand}
use Rattle.pc_build.specs.Demands.{AreRests, WithRow}
use Rattle.pc_build.proofs.RestLemmas.{rests_none, rests_more_row}
use Rattle.pc_build.proofs.rests.rests_by_value.Goals as goal

pub loop-row-init : goal.loop-row-init
loop-row-init c = subst (AreRests (take 0 c.args.rows.now) c.args.count) (sym {A = List (List (List Demand))} c.in_ok-rests.ensures) (rests_none c.args.rows.now c.args.count)

pub loop-row-preserved : goal.loop-row-preserved
loop-row-preserved c =
    rests_more_row c.args.rows.now c.loop-row.row-index c.args.count c.row-item.result c.loop-row.rests.items c.add_rest.new.rests.items c.loop-row-test.true c.row-item.is c.loop-row.invariant
    (subst (λ (row : List Demand). WithRow row c.loop-row.rests.items c.add_rest.new.rests.items) c.as_slice.ensures c.in_ok-add_rest.ensures)
