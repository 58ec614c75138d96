-- What stays of items in order is their front.
use Rattle.std.proofs.Common.{rules, sym, ◌∙◌, subst}
use Rattle.std.proofs.lemmas.Fn.{dedup_same}
use Rattle.std.proofs.lemmas.List.Sorted.{answers_always}
use Rattle.pc_pareto.specs.declared.front_item.FrontItem.{FrontItem}
use Rattle.pc_pareto.specs.Items.{is_past}
use Rattle.pc_pareto.proofs.ItemLemmas.{front_of_permuted}
use Rattle.pc_pareto.proofs.OrderLemmas.{sorted_in_order}
use Rattle.pc_pareto.proofs.SweepLemmas.{deduped_front}
use Rattle.pc_pareto.proofs.sweep.keep_front.Goals as goal

pub returns : goal.returns
returns c =
    let before = c.args.items.now.items in
    let items = c.sort_by_key.new.self.items in
    let kept = c.dedup_by.new.self.items in
    let up = c.in_ok-sort_by_key.ensures.sorted (λ x. (x.first, x.second, x.back.rank)) (answers_always _ _ _ (λ f a r g h. search rules)) in
    let left = dedup_same _ is_past _ (λ x y b f' x' y' k. search rules) items kept c.dedup_by.ensures.filtered in
    front_of_permuted before items kept c.in_ok-sort_by_key.ensures.permutation (deduped_front items kept (sorted_in_order items up) left)
