-- One word more is an edge, or none is.
use Rattle.std.proofs.Common.{◌≡◌, [], Some, None}
use Rattle.std.proofs.lemmas.List.{take_more}
use Rattle.pc_dump.specs.Dump.{edge_word}
use Rattle.pc_dump.specs.Form.{IsEdge}
use Rattle.pc_dump.proofs.PutLemmas.{edges_more, spelt_at}
use Rattle.pc_dump.proofs.kinds.push_edges.Goals as goal

pub loop-word-preserved : goal.loop-word-preserved
loop-word-preserved c =
    let ws = c.args.words.now in
    let i = c.loop-word.word-index in
    edges_more (λ word. word.now) ws i _ _ _ _ c.in-Some.edge (take_more ws i (record { ref_ptr = (0, 0); now = [] }) c.loop-word-test.true) c.loop-word.invariant c.in-Some.ensures.is c.in-Some.ensures.small c.in_ok-push-in-Some.ensures.ok

pub returns-in-None-clause-every : goal.returns-in-None-clause-every
returns-in-None-clause-every c _ row all e =
    let word = spelt_at (λ word. word.now) edge_word IsEdge c.args.words.now row e all c.loop-word.word-index (record { ref_ptr = (0, 0); now = [] }) c.loop-word-test.true in
    let found : c.edge_of.result ≡ Some word.item = c.edge_of.ensures.every word.item word.holds word.is in
    let none : c.edge_of.result ≡ None = c.in-None.is in
    cc
