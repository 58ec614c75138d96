use Rattle.std.proofs.Common.{[], ◌∙◌, ap, get_or, sym, subst, nat_eq}
use Rattle.std.specs.Cmp.Lexicographic.{pointwise}
use Rattle.std.specs.List.{IsDistinct}
use Rattle.std.proofs.lemmas.List.{take_all}
use Rattle.pc_store.specs.Rows.{with_row}
use Rattle.pc_store.proofs.TableLemmas.{row_put, next_row}
use Rattle.pc_store.proofs.table.widened.Goals as goal

pub loop-row-preserved : goal.loop-row-preserved
loop-row-preserved c =
    let rows = c.as_slice-row-items.result.now in
    let i = c.loop-row.row-index in
    let distinct = subst (IsDistinct (pointwise nat_eq)) (sym c.as_slice-row-items.ensures.keys) c.as_slice-row-items.ensures.unique in
    row_put (λ row. row.items) (get_or rows i []) c.loop-row.any.keys c.insert.new.self.keys c.in_ok-from_slice.field-0 c.in_ok-from_slice.ensures.ok c.in_ok-insert.ensures.keys
    ∙ ap (λ before. with_row before (get_or rows i [])) c.loop-row.invariant
    ∙ next_row rows i [] c.loop-row-test.true distinct

pub returns : goal.returns
returns c = c.loop-row.invariant ∙ take_all c.loop-row.row-index c.as_slice-row-items.result.now c.loop-row-test.false ∙ c.as_slice-row-items.ensures.keys
