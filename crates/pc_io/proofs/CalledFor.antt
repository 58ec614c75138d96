-- What bytes call for.
use Rattle.std.proofs.Common.{◌≡◌, ℕ, ◌+◌, ◌<◌, ◌≤◌, true, false, cond, List, [], ◌∷◌, ◌++◌, length, take, drop, min, Option, Some, None, Ok, Err, IsTrue, IfNone, IfSome, sym, ap, ◌∙◌, inl, inr, arith, length-append, append_assoc}
use Rattle.std.proofs.lemmas.Bool.{cases_lt, cond-true, cond-false, lt-ltb, le-ltb, false_from_ne_true}
use Rattle.std.proofs.lemmas.List.{append-nil}
use Rattle.pc_io.specs.declared.line_fault.LineFault.{LineFault}
use Rattle.pc_io.specs.declared.line_fault.LineFault.TheVariants.{LineTooLong, TotalTooLong}
use Rattle.pc_io.specs.Held.{Held, held}
use Rattle.pc_base.specs.Lines.{HasNoFeed, first_line, from_feed, is_long, is_over}
use Rattle.pc_io.specs.NextLine.{LineAnswer, answer_to, taken}
use Rattle.pc_base.proofs.LineCuts.{first_line-at_feed, first_line-whole, from_feed-at_feed, from_feed-none, length-first_line-append, length-first_line-take}

-- the tests of the limits, by numbers

long_by : (line_limit left : ℕ) (b : List ℕ) → line_limit < min left (length (first_line b)) → is_long line_limit left b ≡ true
long_by line_limit left b h = lt-ltb _ _ (rw length-first_line-take h)

short_by : (line_limit left : ℕ) (b : List ℕ) → min left (length (first_line b)) ≤ line_limit → is_long line_limit left b ≡ false
short_by line_limit left b h = le-ltb _ _ (rw length-first_line-take h)

over_by : (left : ℕ) (b : List ℕ) → left < length (first_line b) + length (take 1 (from_feed b)) → is_over left b ≡ true
over_by left b h = lt-ltb _ _ (rw length-append h)

within_by : (left : ℕ) (b : List ℕ) → length (first_line b) + length (take 1 (from_feed b)) ≤ left → is_over left b ≡ false
within_by left b h = le-ltb _ _ (rw length-append h)

-- the answer, by the tests

pub answer-long : (line_limit left : ℕ) (b : List ℕ) → is_long line_limit left b ≡ true → answer_to line_limit left b ≡ Err LineTooLong
unfolding answer_to
answer-long line_limit left b long = cond-true _ _ _ long

pub answer-over : (line_limit left : ℕ) (b : List ℕ) → is_long line_limit left b ≡ false → is_over left b ≡ true → answer_to line_limit left b ≡ Err TotalTooLong
unfolding answer_to
answer-over line_limit left b short over = cond-false _ _ _ short ∙ cond-true _ _ _ over

pub answer-line : (line_limit left : ℕ) (b : List ℕ) → is_long line_limit left b ≡ false → is_over left b ≡ false → 0 < length b → answer_to line_limit left b ≡ Ok (Some (first_line b))
unfolding answer_to
answer-line line_limit left b short within some = cond-false _ _ _ short ∙ cond-false _ _ _ within ∙ cond-true _ _ _ (lt-ltb 0 (length b) some)

pub answer-end : (line_limit left : ℕ) → answer_to line_limit left [] ≡ Ok None
unfolding answer_to
answer-end line_limit left =
    cond-false _ _ _ (short_by line_limit left [] (rw first_line-whole (omega arith)))
    ∙ cond-false _ _ _ (within_by left [] (rw (first_line-whole, from_feed-none) (omega arith)))

-- a line up to its line feed

feed_size : (line later : List ℕ) → HasNoFeed line → length (first_line (line ++ 10 ∷ later)) + length (take 1 (from_feed (line ++ 10 ∷ later))) ≡ length line + 1
feed_size line later h = rw (first_line-at_feed line later h, from_feed-at_feed line later h)

pub answer-at_feed : (line_limit left : ℕ) (line later : List ℕ) → HasNoFeed line → length line ≤ min line_limit left → length line < left → answer_to line_limit left (line ++ 10 ∷ later) ≡ Ok (Some line)
answer-at_feed line_limit left line later h fits within =
    let size = feed_size line later h in
    let first = first_line-at_feed line later h in
    answer-line line_limit left _ (short_by line_limit left _ (omega (arith, ap length first))) (within_by left _ (omega (arith, size))) (omega (arith, length-append line (10 ∷ later)))
    ∙ ap (λ (x : List ℕ). Ok (Some x)) first

pub answer-over_feed : (line_limit left : ℕ) (line later : List ℕ) → HasNoFeed line → length line ≤ min line_limit left → left ≤ length line → answer_to line_limit left (line ++ 10 ∷ later) ≡ Err TotalTooLong
answer-over_feed line_limit left line later h fits past =
    answer-over line_limit left _ (short_by line_limit left _ (omega (arith, ap length (first_line-at_feed line later h)))) (over_by left _ (omega (arith, feed_size line later h)))

-- the last line

pub answer-last : (line_limit left : ℕ) (line : List ℕ) → HasNoFeed line → length line ≤ min line_limit left → 0 < length line → answer_to line_limit left line ≡ Ok (Some line)
answer-last line_limit left line h fits some =
    let first = first_line-whole line h in
    let size : length (first_line line) + length (take 1 (from_feed line)) ≡ length line = rw (first, from_feed-none line h) (omega arith) in
    answer-line line_limit left line (short_by line_limit left line (omega (arith, ap length first))) (within_by left line (omega (arith, size))) some
    ∙ ap (λ (x : List ℕ). Ok (Some x)) first

-- a line that goes past the lower limit

pub answer-past : (line_limit left : ℕ) (b : List ℕ) (fault : LineFault) → min line_limit left < length (first_line b) → (line_limit < left → fault ≡ LineTooLong) → (left ≤ line_limit → fault ≡ TotalTooLong)
    → answer_to line_limit left b ≡ Err fault
answer-past line_limit left b fault past long over =
    elim (cases_lt line_limit left) [
      | inl h ↦ answer-long line_limit left b (long_by line_limit left b (omega arith)) ∙ ap (λ (e : LineFault). Err e) (sym (long h))
      | inr h ↦ answer-over line_limit left b (short_by line_limit left b (omega arith)) (over_by left b (omega arith)) ∙ ap (λ (e : LineFault). Err e) (sym (over h))
    ]

-- with nothing more to come

pub called_now : (line_limit left : ℕ) (b : List ℕ) (answer : LineAnswer) → answer ≡ answer_to line_limit left (b ++ []) → answer ≡ answer_to line_limit left b
called_now line_limit left b answer is = is ∙ ap (answer_to line_limit left) (append-nil b)

-- the same of what is held, with more bytes to come

module _ (line_limit left : ℕ) (p q : Held) (more : List ℕ) where
  pub called_at_feed : (line : List ℕ) → line ≡ p.part → q ≡ record p { part = []; ahead = drop 1 p.ahead } → HasNoFeed p.part → length p.part ≤ min line_limit left
      → p.ahead ≡ 10 ∷ drop 1 p.ahead → (IsTrue p.ended → p.ahead ≡ []) → length p.part < left
      → Ok (Some line) ≡ answer_to line_limit left (cond q.ended line (line ++ 10 ∷ []) ++ held q ++ more)
  called_at_feed line is after h fits feed ended within =
      let open_ : p.ended ≡ false = false_from_ne_true p.ended (λ e. absurd (omega (arith, ap length (sym (ended e) ∙ feed)))) in
      let open_after : q.ended ≡ false = ap (λ (x : Held). x.ended) after ∙ open_ in
      let ahead : held q ≡ drop 1 p.ahead = ap held after in
      rw (open_after, ahead, is) (sym (ap (answer_to line_limit left) (append_assoc (p.part ++ 10 ∷ []) (drop 1 p.ahead) more ∙ append_assoc p.part (10 ∷ []) (drop 1 p.ahead ++ more)) ∙ answer-at_feed line_limit left p.part (drop 1 p.ahead ++ more) h fits within))

  pub called_over_feed : HasNoFeed p.part → length p.part ≤ min line_limit left → p.ahead ≡ 10 ∷ drop 1 p.ahead → left ≤ length p.part
      → Err TotalTooLong ≡ answer_to line_limit left (held p ++ more)
  called_over_feed h fits feed past =
      let bytes : held p ++ more ≡ p.part ++ 10 ∷ (drop 1 p.ahead ++ more) = append_assoc p.part p.ahead more ∙ ap (λ (x : List ℕ). p.part ++ (x ++ more)) feed in
      sym (ap (answer_to line_limit left) bytes ∙ answer-over_feed line_limit left p.part (drop 1 p.ahead ++ more) h fits past)

  pub called_past : (fault : LineFault) → min line_limit left < length (first_line (held p)) → (line_limit < left → fault ≡ LineTooLong) → (left ≤ line_limit → fault ≡ TotalTooLong)
      → Err fault ≡ answer_to line_limit left (held p ++ more)
  called_past fault past long over =
      sym (answer-past line_limit left (held p ++ more) fault (omega (arith, length-first_line-append (held p) more)) long over)

  pub called_at_end : (r : Option (List ℕ)) → IfNone r (p.part ≡ []) → IfSome r (λ line. (line ≡ p.part) × (0 < length line)) → q ≡ record p { part = [] } → HasNoFeed p.part → length p.part ≤ min line_limit left
      → p.ahead ≡ [] → p.ended ≡ true → (IsTrue q.ended → more ≡ []) → Ok r ≡ answer_to line_limit left (taken (Ok r) q.ended ++ held q ++ more)
  called_at_end None is_none is_line after h fits none ended no_more =
      let end : q.ended ≡ true = ap (λ (x : Held). x.ended) after ∙ ended in
      let bytes : held q ≡ [] = ap held after ∙ none in
      rw (bytes, no_more end) (sym (answer-end line_limit left))
  called_at_end (Some line) is_none is_line after h fits none ended no_more =
      let end : q.ended ≡ true = ap (λ (x : Held). x.ended) after ∙ ended in
      let bytes : held q ≡ [] = ap held after ∙ none in
      let all : line ++ [] ++ [] ≡ p.part = append-nil (line ++ []) ∙ append-nil line ∙ is_line.0 in
      let some : 0 < length p.part = omega (arith, is_line.1, ap length is_line.0) in
      rw (end, bytes, no_more end) (ap (λ (x : List ℕ). Ok (Some x)) is_line.0 ∙ sym (ap (answer_to line_limit left) all ∙ answer-last line_limit left p.part h fits some))
