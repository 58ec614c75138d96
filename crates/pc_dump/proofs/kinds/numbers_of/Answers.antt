-- One word more is a number, or none is.
use Rattle.std.proofs.Common.{◌≡◌, [], decimal, Some, None}
use Rattle.std.proofs.lemmas.List.{take_more}
use Rattle.std.proofs.lemmas.List.Elements.{All-push}
use Rattle.pc_dump.specs.Form.{IsNumber}
use Rattle.pc_dump.proofs.PutLemmas.{put_more, spelt_at}
use Rattle.pc_dump.proofs.kinds.numbers_of.Goals as goal

pub loop-word-preserved : goal.loop-word-preserved
loop-word-preserved c =
    let ws = c.args.words.now in
    let i = c.loop-word.word-index in
    let so_far = c.loop-word.invariant in
    let number = c.in-Some.number in
    rw c.in_ok-push-in-Some.ensures.ok (record {
      is = put_more (λ word. word.now) decimal ws i _ c.loop-word.numbers number (take_more ws i (record { ref_ptr = (0, 0); now = [] }) c.loop-word-test.true) so_far.is c.in-Some.ensures.spelt;
      small = All-push IsNumber c.loop-word.numbers number so_far.small c.in-Some.ensures.small;
    })

pub returns-in-None-clause-every : goal.returns-in-None-clause-every
returns-in-None-clause-every c _ numbers all e =
    let word = spelt_at (λ word. word.now) decimal IsNumber c.args.words.now numbers e all c.loop-word.word-index (record { ref_ptr = (0, 0); now = [] }) c.loop-word-test.true in
    let found : c.number_of.result ≡ Some word.item = c.number_of.ensures.every word.item word.holds word.is in
    let none : c.number_of.result ≡ None = c.in-None.is in
    cc
