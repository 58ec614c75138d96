-- One variable more is listed.
use Rattle.std.proofs.Common.{[], ◌∷◌, ◌++◌, length, arith, sym, ap, ◌∙◌}
use Rattle.std.proofs.lemmas.List.{get_or_read}
use Rattle.std.proofs.lemmas.List.FromFn.{map-range_with_len_more}
use Rattle.pc_diagram.specs.Listing.{value_count}
use Rattle.pc_diagram.specs.Priced.{priced_items}
use Rattle.pc_diagram.proofs.valid_values.rows.Goals as goal

pub loop-variable-preserved : goal.loop-variable-preserved
loop-variable-preserved c =
    let costs = c.args.costs.now in
    let words = c.args.words.now in
    let priced = c.args.priced.now in
    let i = c.loop-variable.variable in
    let slice = c.as_slice-values-items.ensures in
    let values = rw slice at (get_or_read c.as_slice-values-items.result.now i c.values-item.result (omega arith) c.values-item.is []) in
    let count = c.len-in-loop-variable.ensures ∙ ap length values in
    let row = c.in_ok-row.ensures ∙ ap (priced_items words priced i) count in
    c.in_ok-push.ensures.ok ∙ ap (λ r. c.loop-variable.rows ++ r ∷ []) row ∙ ap (λ r. r ++ priced_items words priced i (value_count costs i) ∷ []) c.loop-variable.invariant ∙ sym (map-range_with_len_more (λ variable. priced_items words priced variable (value_count costs variable)) 0 i i (omega arith))
