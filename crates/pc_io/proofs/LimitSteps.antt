-- How the limits are judged line by line.
use Rattle.std.proofs.Common.{◌≡◌, ℕ, suc, ◌+◌, ◌-◌, ◌<◌, ◌≤◌, Bool, true, false, ◌||◌, cond, List, [], ◌∷◌, ◌++◌, length, take, nat_lt, Some, None, Ok, Err, IsTrue, refl, sym, ap, ◌∙◌, inl, inr, arith, length-append, length-take, append_assoc}
use Rattle.std.specs.List.{list_any}
use Rattle.std.proofs.Math.Seq.{take-append-add}
use Rattle.std.proofs.lemmas.Bool.{cases_Bool, cases_lt, le-ltb, lt-ltb, ltb-false, ltb-true, or_from, or_left}
use Rattle.std.proofs.lemmas.List.{append-nil, take-append-le, take_all}
use Rattle.pc_io.specs.declared.line_fault.LineFault.{LineFault}
use Rattle.pc_io.specs.declared.line_fault.LineFault.TheVariants.{LineTooLong, TotalTooLong}
use Rattle.pc_io.specs.Limits.{broken_limit}
use Rattle.pc_base.specs.Lines.{HasNoFeed, first_line, from_feed, is_feed, is_long, is_over, lines}
use Rattle.pc_io.specs.NextLine.{answer_to, taken}
use Rattle.pc_io.proofs.CalledFor.{answer-end, answer-line, answer-long, answer-over}
use Rattle.pc_base.proofs.LineCuts.{HasNoFeed-first_line, HasNoFeed-take, first_line-from_feed, first_line-whole, length-first_line-le, lines-feed_after, lines-first, lines-last, lines-nil}

-- some line is longer than the limit
abbrev some_long : ℕ → List ℕ → Bool
some_long line_limit b = list_any (λ line. nat_lt line_limit (length line)) (lines b)

-- the broken limit, by its two tests

broken-by : (line_limit left : ℕ) (b : List ℕ) (long over : Bool) → some_long line_limit (take left b) ≡ long → nat_lt left (length b) ≡ over
    → broken_limit line_limit left b ≡ cond long (Some LineTooLong) (cond over (Some TotalTooLong) None)
unfolding broken_limit
broken-by line_limit left b long over is_long_ is_over_ =
    ap (λ (t : Bool). cond t (Some LineTooLong) (cond (nat_lt left (length b)) (Some TotalTooLong) None)) is_long_
    ∙ ap (λ (t : Bool). cond long (Some LineTooLong) (cond t (Some TotalTooLong) None)) is_over_

broken-tests : (line_limit left : ℕ) (b : List ℕ) → broken_limit line_limit left b ≡ cond (some_long line_limit (take left b)) (Some LineTooLong) (cond (nat_lt left (length b)) (Some TotalTooLong) None)
broken-tests line_limit left b = broken-by line_limit left b _ _ refl refl

-- bytes without a line feed are one line, if any

none_long : (line_limit : ℕ) (b : List ℕ) → HasNoFeed b → length b ≤ line_limit → some_long line_limit b ≡ false
none_long line_limit [] h fits = ap (list_any (λ line. nat_lt line_limit (length line))) lines-nil
none_long line_limit (x ∷ xs) h fits =
    ap (list_any (λ line. nat_lt line_limit (length line))) (lines-last x xs h) ∙ or_from (nat_lt line_limit (length (x ∷ xs))) false (le-ltb _ _ fits) refl

pub broken-last : (line_limit left : ℕ) (line : List ℕ) → HasNoFeed line → length line ≤ line_limit → length line ≤ left → broken_limit line_limit left line ≡ None
broken-last line_limit left line h fits within =
    broken-by line_limit left line false false (ap (some_long line_limit) (take_all left line within) ∙ none_long line_limit line h fits) (le-ltb _ _ within)

pub broken-nil : (line_limit left : ℕ) → broken_limit line_limit left [] ≡ None
broken-nil line_limit left = broken-last line_limit left [] refl (omega arith) (omega arith)

-- after a line and its line feed, the others are judged alike

nat_lt-add : (k a b : ℕ) → nat_lt (k + suc a) (k + suc b) ≡ nat_lt a b
nat_lt-add k a b =
    elim (cases_lt a b) [
      | inl h ↦ lt-ltb _ _ (omega arith) ∙ sym (lt-ltb _ _ h)
      | inr h ↦ le-ltb _ _ (omega arith) ∙ sym (le-ltb _ _ h)
    ]

pub broken-feed : (line_limit rest : ℕ) (line later : List ℕ) → HasNoFeed line → length line ≤ line_limit
    → broken_limit line_limit (length line + suc rest) (line ++ 10 ∷ later) ≡ broken_limit line_limit rest later
broken-feed line_limit rest line later h fits =
    let front : take (length line + suc rest) (line ++ 10 ∷ later) ≡ line ++ 10 ∷ take rest later = take-append-add line (10 ∷ later) (suc rest) in
    let all : some_long line_limit (take (length line + suc rest) (line ++ 10 ∷ later)) ≡ (nat_lt line_limit (length line) || some_long line_limit (take rest later)) =
    ap (some_long line_limit) front ∙ ap (list_any (λ line. nat_lt line_limit (length line))) (lines-feed_after line (take rest later) h) in
    let first : (nat_lt line_limit (length line) || some_long line_limit (take rest later)) ≡ some_long line_limit (take rest later) =
    ap (λ (t : Bool). t || some_long line_limit (take rest later)) (le-ltb _ _ fits) in
    let size : nat_lt (length line + suc rest) (length (line ++ 10 ∷ later)) ≡ nat_lt rest (length later) =
    ap (nat_lt (length line + suc rest)) (length-append line (10 ∷ later)) ∙ nat_lt-add (length line) rest (length later) in
    broken-by line_limit (length line + suc rest) (line ++ 10 ∷ later) _ _ (all ∙ first) size ∙ sym (broken-tests line_limit rest later)

-- the bytes of a line and what comes after it
pub broken-step : (line_limit left : ℕ) (line later : List ℕ) (ended : Bool) → HasNoFeed line → length line ≤ line_limit → length (taken (Ok (Some line)) ended) ≤ left → (IsTrue ended → later ≡ [])
    → broken_limit line_limit left (taken (Ok (Some line)) ended ++ later) ≡ broken_limit line_limit (left - length (taken (Ok (Some line)) ended)) later
broken-step line_limit left line later false h fits within none =
    let size : left ≡ length line + suc (left - length (line ++ 10 ∷ [])) = omega (arith, length-append line (10 ∷ [])) in
    ap (broken_limit line_limit left) (append_assoc line (10 ∷ []) later) ∙ ap (λ (n : ℕ). broken_limit line_limit n (line ++ 10 ∷ later)) size
    ∙ broken-feed line_limit (left - length (line ++ 10 ∷ [])) line later h fits
broken-step line_limit left line later true h fits within none =
    rw (none refl, append-nil, broken-nil) (broken-last line_limit left line h fits within)

-- a fault that the bytes call for is the limit that they break

broken-long : (line_limit left : ℕ) (b : List ℕ) → is_long line_limit left b ≡ true → broken_limit line_limit left b ≡ Some LineTooLong
broken-long line_limit left b long =
    let past : line_limit < length (first_line (take left b)) = ltb-true _ _ long in
    let some : 0 < length (take left b) = omega (arith, length-first_line-le (take left b)) in
    broken-by line_limit left b true _ (ap (list_any (λ line. nat_lt line_limit (length line))) (lines-first (take left b) some) ∙ or_left _ _ long) refl

broken-over : (line_limit left : ℕ) (b : List ℕ) → is_long line_limit left b ≡ false → is_over left b ≡ true → broken_limit line_limit left b ≡ Some TotalTooLong
broken-over line_limit left b short over =
    let past : left < length (first_line b) + length (take 1 (from_feed b)) = rw length-append at (ltb-true _ _ over) in
    let one : length (take 1 (from_feed b)) ≤ 1 = rw length-take (omega arith) in
    let some : length (take 1 (from_feed b)) ≤ length (from_feed b) = rw length-take (omega arith) in
    let front : take left b ≡ take left (first_line b) = ap (take left) (sym (first_line-from_feed b)) ∙ take-append-le left (first_line b) (from_feed b) (omega arith) in
    let no_feed : HasNoFeed (take left b) = ap (list_any is_feed) front ∙ HasNoFeed-take left (first_line b) (HasNoFeed-first_line b) in
    let fits : length (take left b) ≤ line_limit = rw (← first_line-whole (take left b) no_feed) (ltb-false _ _ short) in
    let size : length (first_line b) + length (from_feed b) ≡ length b = sym (length-append (first_line b) (from_feed b)) ∙ ap length (first_line-from_feed b) in
    broken-by line_limit left b false true (none_long line_limit (take left b) no_feed fits) (lt-ltb _ _ (omega arith))

never : (line_limit left : ℕ) (b : List ℕ) (fault : LineFault) → is_long line_limit left b ≡ false → is_over left b ≡ false → Err fault ≡ answer_to line_limit left b → ⊥
never line_limit left [] fault short within is = let same : Err fault ≡ Ok None = is ∙ answer-end line_limit left in cc
never line_limit left (x ∷ xs) fault short within is =
    let same : Err fault ≡ Ok (Some (first_line (x ∷ xs))) = is ∙ answer-line line_limit left (x ∷ xs) short within (omega arith) in cc

pub answer-breaks : (line_limit left : ℕ) (b : List ℕ) (fault : LineFault) → Err fault ≡ answer_to line_limit left b → broken_limit line_limit left b ≡ Some fault
answer-breaks line_limit left b fault is =
    elim (cases_Bool (is_long line_limit left b)) [
      | inl long ↦ let same : Err fault ≡ Err LineTooLong = is ∙ answer-long line_limit left b long in let e : fault ≡ LineTooLong = cc in broken-long line_limit left b long ∙ ap (λ (f : LineFault). Some f) (sym e)
      | inr short ↦ elim (cases_Bool (is_over left b)) [
        | inl over ↦ let same : Err fault ≡ Err TotalTooLong = is ∙ answer-over line_limit left b short over in let e : fault ≡ TotalTooLong = cc in broken-over line_limit left b short over ∙ ap (λ (f : LineFault). Some f) (sym e)
        | inr within ↦ absurd (never line_limit left b fault short within is)
      ]
    ]
