use Rattle.std.proofs.Common.{◌≡◌, ◌+◌, List, get_or, sym, subst}
use Rattle.std.proofs.lemmas.List.{get_or_default}
use Rattle.pc_store.specs.declared.id.Node.{Node}
use Rattle.pc_apply.proofs.SplitLemmas.{RowsFirst, rows_more}
use Rattle.pc_apply.proofs.step.rows_of.Goals as goal

pub loop-set-preserved : goal.loop-set-preserved
loop-set-preserved c =
    let sets = c.args.sets.now in
    let i = c.loop-set.set-index in
    let set : Node = get_or sets i (record { number = 0 }) in
    let read : set ≡ get_or sets i set = get_or_default sets i (record { number = 0 }) set c.loop-set-test.true in
    subst (RowsFirst c.args.store.now c.args.layer sets (i + 1)) (sym {A = List (List Node)} c.in_ok-push.ensures.items)
    (rows_more c.args.store.now c.args.layer sets i set c.loop-set.rows.items c.children.result read c.children.ensures c.loop-set.invariant)
