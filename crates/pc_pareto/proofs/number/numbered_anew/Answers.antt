use Rattle.std.proofs.Common.{◌≡◌, ◌∙◌, ◌+◌, ◌≤◌, List, length, map, sum_by, sym, ap, subst, arith}
use Rattle.pc_pareto.specs.declared.front_item.FrontItem.{FrontItem}
use Rattle.pc_pareto.specs.declared.limits.TheConstants.{MOST_RANKS}
use Rattle.pc_pareto.specs.Numbered.{with_rank, count_below, IsNumbered}
use Rattle.pc_pareto.proofs.NumberLemmas.{numbered_counts}
use Rattle.pc_pareto.proofs.number.numbered_anew.Goals as goal

pub returns : goal.returns
returns c =
    let ranks = c.in_ok-ranks.ranks.items in
    let stage = c.args.stage.now in
    let slice : c.as_slice-ranks.result.now ≡ ranks = c.as_slice-ranks.ensures.value in
    let sizes : length c.as_slice-ranks.result.now ≡ length ranks = ap length slice in
    let new_is : c.in_ok-new.new ≡ map (map (with_rank (count_below ranks))) stage = c.in_ok-new.ensures ∙ ap (λ rs. map (map (with_rank (count_below rs))) stage) slice in
    let count : length ranks ≡ sum_by length stage = c.in_ok-ranks.ensures.count in
    let few = c.requires in
    let small : length c.as_slice-ranks.result.now + 1 ≤ MOST_RANKS = omega arith in
    subst (λ (new : List (List FrontItem)). IsNumbered stage new (length c.as_slice-ranks.result.now + 1)) (sym new_is) (numbered_counts stage ranks (length c.as_slice-ranks.result.now + 1) c.in_ok-ranks.ensures.ranks (ap (λ n. n + 1) sizes) small)
