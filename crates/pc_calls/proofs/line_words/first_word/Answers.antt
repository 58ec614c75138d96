use Rattle.std.proofs.Common.{◌<◌, ◌≤◌, length, ◌-◌, take, drop, ap, ◌∙◌, arith}
use Rattle.std.specs.List.{before_first}
use Rattle.pc_names.specs.Spaces.{is_space}
use Rattle.pc_calls.proofs.LineWordLemmas.{spaces, no_word_from, first_word_from, slice_rest}
use Rattle.pc_calls.proofs.line_words.first_word.Goals as goal

pub returns-then-skipped-rest-clause-word : goal.returns-then-skipped-rest-clause-word
returns-then-skipped-rest-clause-word c =
    let line = c.args.line.now in
    let start = c.min-start.result in
    let rest = slice_rest start line in
    let skipped = c.word_place-skipped.ensures.place ∙ ap spaces rest in
    let all = c.if-skipped-rest.true ∙ ap length rest in
    let none : length (drop start line) ≤ spaces (drop start line) = omega (arith, skipped, all) in
    no_word_from line c.args.from start c.min-start.ensures none

pub returns-clause-word : goal.returns-clause-word
returns-clause-word c =
    let line = c.args.line.now in
    let start = c.min-start.result in
    let skipped = c.word_place-skipped.result in
    let rest = slice_rest start line in
    let tail = take (length line - start) (drop start line) in
    let place = c.word_place-skipped.ensures.place ∙ ap spaces rest in
    let below : skipped < length (drop start line) = omega (arith, c.word_place-skipped.ensures.within, ap length rest, c.if-skipped-rest.false) in
    let word = c.word_front.ensures ∙ ap (before_first is_space) (slice_rest skipped tail ∙ ap (drop skipped) rest) in
    first_word_from line c.args.from start skipped c.word_front.result.now c.min-start.ensures place below word
