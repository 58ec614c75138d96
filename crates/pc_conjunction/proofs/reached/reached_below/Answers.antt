use Rattle.std.proofs.Common.{◌≡◌, ◌+◌, ◌∙◌, List, [], Bool, length, drop, get_or, sym, subst, arith}
use Rattle.std.proofs.lemmas.List.{take_at, get_or_default}
use Rattle.pc_conjunction.specs.Reached.{MarksMore}
use Rattle.pc_conjunction.proofs.ReachedLemmas.{Reaching, reaching_more}
use Rattle.pc_conjunction.proofs.reached.reached_below.Goals as goal

pub loop-column-preserved : goal.loop-column-preserved
loop-column-preserved c =
    let done = c.loop-column.column-index in
    let columns = c.args.columns.now in
    let old : List Bool = c.loop-column.below.items in
    let new : List Bool = c.mark.new.below in
    let read : get_or columns done [] ≡ c.as_slice.result.now = get_or_default columns done [] c.column-item.result c.loop-column-test.true ∙ sym c.column-item.is ∙ sym c.as_slice.ensures in
    let more : MarksMore c.args.marks.now c.as_slice.result.now old new = subst (λ (marks : List Bool). MarksMore c.args.marks.now c.as_slice.result.now marks new) c.as_mut_slice.ensures.value c.mark.ensures in
    let wide : length new ≡ c.loop-column.below.len = (let n = more.count_is in let l = c.loop-column.below.ok in let m = c.as_mut_slice.ensures.len in omega arith) in
    subst (Reaching c.args.marks.now columns c.args.count (done + 1)) (sym {A = List Bool} (take_at new (drop (length new) old) c.loop-column.below.len wide))
    (reaching_more c.args.marks.now columns c.args.count done c.as_slice.result.now old new c.loop-column-test.true read more c.loop-column.invariant)
