-- One value more is listed or not.
use Rattle.std.proofs.Common.{[], ◌∷◌, ◌++◌, sym, ap, ◌∙◌}
use Rattle.pc_diagram.proofs.PricedLemmas.{priced_items-more_some, priced_items-more_none}
use Rattle.pc_diagram.proofs.valid_values.row.Goals as goal
use Rattle.pc_diagram.proofs.valid_values.row.Goals.{in-Some+in_ok-push, in_default}

pub loop-value-preserved : goal.loop-value-preserved
loop-value-preserved c =
    let words = c.args.words.now in
    let priced = c.args.priced.now in
    let found = sym c.in_ok-listed.ensures in
    elim c.match-branch-2.branch [
      | in-Some+in_ok-push w ↦ w.row-is ∙ w.in_ok-push.ensures.ok ∙ ap (λ r. r ++ w.in-Some.listed ∷ []) c.loop-value.invariant ∙ sym (priced_items-more_some words priced c.args.variable c.loop-value.value w.in-Some.listed (found ∙ w.in-Some.is))
      | in_default w ↦ w.row-is ∙ c.loop-value.invariant ∙ sym (priced_items-more_none words priced c.args.variable c.loop-value.value (found ∙ w.in_default.is))
    ]
