use Rattle.std.proofs.Common.{◌∙◌}
use Rattle.pc_apply.specs.declared.pair.Pair.{Pair}
use Rattle.pc_apply.specs.Pairs.{pairs_at}
use Rattle.pc_apply.proofs.ProductLemmas.{one_answer}
use Rattle.pc_apply.proofs.PairLemmas.{whole_words}
use Rattle.pc_apply.proofs.operations.combine.Goals as goal

pub returns-clause-is_id : goal.returns-clause-is_id
returns-clause-is_id c =
    let pair : Pair = record { left = c.node.result; right = c.node-2.result } in
    (one_answer c.args.store.now c.sets_of_pairs.new.store (pairs_at c.args.store.now 0 c.args.operation) pair c.in_ok-ids.ids.items c.index.result.now c.in_ok-ids.ensures.ids c.index.ensures).is_id

pub returns-clause-set : goal.returns-clause-set
returns-clause-set c =
    let pair : Pair = record { left = c.node.result; right = c.node-2.result } in
    λ word.
    (one_answer c.args.store.now c.sets_of_pairs.new.store (pairs_at c.args.store.now 0 c.args.operation) pair c.in_ok-ids.ids.items c.index.result.now c.in_ok-ids.ensures.ids c.index.ensures).words word
    ∙ whole_words c.args.store.now c.args.operation c.args.left c.args.right c.node.result c.node-2.result c.requires.left c.requires.right c.node.ensures c.node-2.ensures word
