use Rattle.std.proofs.Common.{◌≡◌, ℕ, true, List, ap, ◌∙◌, sym}
use Rattle.pc_build.specs.declared.demand.Demand.{Demand}
use Rattle.pc_build.specs.Demands.{is_open}
use Rattle.pc_build.proofs.TrieLemmas.{free_more}
use Rattle.pc_build.proofs.trie.are_free.Goals as goal

pub loop-row-preserved : goal.loop-row-preserved
loop-row-preserved c = λ value other word.
    let free : (v : ℕ) → is_open c.row-item.result v ≡ true = λ v. ap (λ (r : List Demand). is_open r v) (sym c.as_slice.ensures) ∙ c.is_free.ensures c.if-not-is_free.false v in
    free_more c.args.rows.now c.loop-row.row-index c.row-item.result c.loop-row-test.true c.row-item.is free value other word (c.loop-row.invariant value other word)
