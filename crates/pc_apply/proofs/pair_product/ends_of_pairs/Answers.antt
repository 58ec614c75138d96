use Rattle.std.proofs.Common.{◌≡◌, List, length, sym, subst, take, get_or, ◌+◌}
use Rattle.std.proofs.lemmas.List.{get_or_default}
use Rattle.pc_store.specs.declared.id.Id.{Id}
use Rattle.pc_store.specs.Sets.{domains_of}
use Rattle.pc_apply.specs.declared.pair.Pair.{Pair}
use Rattle.pc_apply.specs.Levels.{EachAnswers}
use Rattle.pc_apply.specs.Pairs.{pairs_at}
use Rattle.pc_apply.proofs.LevelLemmas.{read_stands}
use Rattle.pc_apply.proofs.ProductLemmas.{answers_more}
use Rattle.pc_apply.proofs.pair_product.ends_of_pairs.Goals as goal

pub at_end-requires : goal.at_end-requires
at_end-requires c =
    let none : Pair = record { left = record { number = 0 }; right = record { number = 0 } } in
    let i = c.loop-pair.pair-index in
    let pair : Pair = get_or c.args.pairs.now i none in
    let read : pair ≡ get_or c.args.pairs.now i pair = get_or_default c.args.pairs.now i none pair c.loop-pair-test.true in
    c.requires i pair (read_stands c.args.pairs.now i pair c.loop-pair-test.true read)

pub loop-pair-preserved : goal.loop-pair-preserved
loop-pair-preserved c =
    let none : Pair = record { left = record { number = 0 }; right = record { number = 0 } } in
    let i = c.loop-pair.pair-index in
    let pair : Pair = get_or c.args.pairs.now i none in
    let read : pair ≡ get_or c.args.pairs.now i pair = get_or_default c.args.pairs.now i none pair c.loop-pair-test.true in
    let store = c.args.store.now in
    let end = length (domains_of store) in
    let question = pairs_at store end c.args.operation in
    subst (EachAnswers store store end question (take (i + 1) c.args.pairs.now)) (sym {A = List Id} c.in_ok-push.ensures.items)
    (answers_more store store end question c.args.pairs.now i pair c.loop-pair.ids.items c.at_end.result c.loop-pair-test.true read c.loop-pair.invariant c.at_end.ensures)
