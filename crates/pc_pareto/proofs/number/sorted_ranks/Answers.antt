use Rattle.std.proofs.Common.{◌≡◌, ◌∙◌, ◌++◌, [], length, map, take, sym, ap, subst}
use Rattle.std.specs.List.{flat_map}
use Rattle.std.specs.List.Sorted.{IsPermutation}
use Rattle.std.proofs.lemmas.List.{get_or_read, take_all}
use Rattle.std.proofs.lemmas.List.Sorted.{IsNonDecreasingBy-from_sort, length_permutation}
use Rattle.pc_pareto.specs.declared.front_item.FrontItem.{FrontItem}
use Rattle.pc_pareto.proofs.NumberLemmas.{flat_more, rank_among, ranks_count}
use Rattle.pc_pareto.proofs.number.sorted_ranks.Goals as goal

pub loop-front-preserved : goal.loop-front-preserved
loop-front-preserved c =
    let f = map (λ (item : FrontItem). item.back.rank) in
    let into = c.as_slice.ensures ∙ get_or_read c.args.stage.now c.loop-front.front-index c.front-item.result c.loop-front-test.true c.front-item.is [] in
    c.in_ok-push_ranks.ensures ∙ ap (λ xs. xs ++ f c.as_slice.result.now) c.loop-front.invariant ∙ ap (λ xs. flat_map f (take c.loop-front.front-index c.args.stage.now) ++ f xs) into
    ∙ sym (flat_more f c.args.stage.now c.loop-front.front-index [] c.loop-front-test.true)

pub returns-clause-ascending : goal.returns-clause-ascending
returns-clause-ascending c = IsNonDecreasingBy-from_sort (λ x. x) c.sort_unstable.new.self.items c.sort_unstable.ensures.sorted

pub returns-clause-ranks : goal.returns-clause-ranks
returns-clause-ranks c =
    let f = map (λ (item : FrontItem). item.back.rank) in
    let all : c.loop-front.ranks.items ≡ flat_map f c.args.stage.now = c.loop-front.invariant ∙ ap (flat_map f) (take_all c.loop-front.front-index c.args.stage.now c.loop-front-test.false) in
    rank_among c.args.stage.now c.sort_unstable.new.self.items (subst (λ xs. IsPermutation xs c.sort_unstable.new.self.items) all c.sort_unstable.ensures.permutation)

pub returns-clause-count : goal.returns-clause-count
returns-clause-count c =
    let f = map (λ (item : FrontItem). item.back.rank) in
    let all : c.loop-front.ranks.items ≡ flat_map f c.args.stage.now = c.loop-front.invariant ∙ ap (flat_map f) (take_all c.loop-front.front-index c.args.stage.now c.loop-front-test.false) in
    length_permutation c.loop-front.ranks.items c.sort_unstable.new.self.items c.sort_unstable.ensures.permutation ∙ ap length all ∙ ranks_count c.args.stage.now
