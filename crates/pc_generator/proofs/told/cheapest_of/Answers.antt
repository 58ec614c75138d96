-- One item more.
use Rattle.std.proofs.Common.{Some, take, map, sym, ap, ◌∙◌, arith}
use Rattle.pc_diagram.specs.Best.{earlier_unless, first_best}
use Rattle.pc_diagram.specs.Costs.{is_cheaper}
use Rattle.pc_generator.specs.Summary.{pair_listed}
use Rattle.pc_generator.proofs.CheapestLemmas.{best-more}
use Rattle.pc_generator.proofs.told.cheapest_of.Goals as goal

pub loop-item-preserved : goal.loop-item-preserved
loop-item-preserved c =
    let items = c.args.items.now in
    let i = c.loop-item.item-index in
    let item = c.item-item.result in
    c.cheaper.ensures
    ∙ ap (λ pair. earlier_unless is_cheaper c.loop-item.cheapest (Some pair)) c.pair_of.ensures
    ∙ ap (λ found. earlier_unless is_cheaper found (Some (pair_listed item))) c.loop-item.invariant
    ∙ ap (λ x. earlier_unless is_cheaper (first_best is_cheaper (map pair_listed (take i items))) (Some (pair_listed x))) c.item-item.is
    ∙ sym (best-more items i item (omega (arith, c.loop-item-test.true)))
