use Rattle.std.proofs.Common.{◌≡◌, [], sym, ◌∙◌, true≢false}
use Rattle.pc_build.proofs.TrieLemmas.{ends_more}
use Rattle.pc_build.proofs.trie.ends.Goals as goal

pub loop-row-preserved : goal.loop-row-preserved
loop-row-preserved c =
    let filled : c.row-item.result ≡ [] → ⊥ = λ none. true≢false (sym (c.is_empty.ensures.1 none) ∙ c.if-is_empty.false) in
    ends_more c.args.rows.now c.loop-row.row-index c.row-item.result c.loop-row-test.true c.row-item.is filled c.loop-row.invariant
