-- One item more: its cost counts where the bounds allow it.
use Rattle.std.proofs.Common.{rules, ◌≡◌, ◌+◌, Some, sym, ap, subst, ◌∙◌, of_z, to_z, w64}
use Rattle.pc_diagram.specs.Least.{lesser}
use Rattle.pc_domains.specs.Least.{IsLeastItem, item_cost}
use Rattle.pc_domains.proofs.LeastItemLemmas.{least_more, least_past}
use Rattle.pc_domains.proofs.least_cost.least_item.Goals as goal
use Rattle.pc_domains.proofs.least_cost.least_item.Goals.{else-is_within, then-is_within}

pub loop-item-preserved : goal.loop-item-preserved
loop-item-preserved c =
    let bounds = c.args.bounds.now in
    let items = c.args.items.now in
    let count = c.loop-item.item-index in
    elim c.if-is_within.branch [
      | then-is_within w ↦
          let same : to_z w64 (of_z w64 w.lesser.result) ≡ w.lesser.result = search rules in
          let priced : to_z w64 (of_z w64 w.cost_of.result) ≡ w.cost_of.result = search rules in
          let is : to_z w64 (of_z w64 w.lesser.result) ≡ lesser (item_cost c.args.which items count) c.loop-item.least =
          same ∙ w.lesser.ensures ∙ ap (λ z. lesser z c.loop-item.least) (priced ∙ w.cost_of.ensures) in
          subst (IsLeastItem bounds c.args.which items (count + 1)) (sym (w.least-is ∙ ap Some is)) (least_more bounds c.args.which items count c.loop-item.least c.loop-item.invariant (sym c.is_within.ensures ∙ search rules))
      | else-is_within w ↦ subst (IsLeastItem bounds c.args.which items (count + 1)) (sym w.least-is) (least_past bounds c.args.which items count c.loop-item.least c.loop-item.invariant (sym c.is_within.ensures ∙ search rules))
    ]
