-- The first fault, line by line.
use Rattle.std.proofs.Common.{◌≡◌, ℕ, ◌+◌, ◌-◌, ◌<◌, ◌≤◌, true, false, ◌⊎◌, min, List, [], ◌∷◌, ◌++◌, length, drop, Some, None, refl, sym, ap, ◌∙◌, inl, inr, arith, length-append}
use Rattle.std.specs.Option.{option_or}
use Rattle.pc_base.specs.Lines.{first_line, after_line, lines}
use Rattle.pc_base.proofs.LineCuts.{Cut, none, feed, cut, first_line-whole, from_feed-none, first_line-at_feed, from_feed-at_feed, lines-first, lines-nil}
use Rattle.pc_rules.specs.declared.kind.Kind.{Kind}
use Rattle.pc_rules.specs.declared.kind.Kind.TheVariants.{Size}
use Rattle.pc_text.specs.Given.{Given}
use Rattle.pc_text.specs.FirstFault.{is_large, size_fault, line_fault, give_line, end_fault, at, fault_from, first_fault, given_from}

-- the line is followed by a line feed, or it is the last
abbrev pub Ends : List ℕ → Type 0
Ends rest =
    (length (after_line rest) + length (first_line rest) + 1 ≡ length rest) ⊎ ((after_line rest ≡ []) × (length (first_line rest) ≡ length rest))

ends : {rest : List ℕ} → Cut rest → Ends rest
ends (none a h) = inr (ap (drop 1) (from_feed-none a h), ap length (first_line-whole a h))
ends (feed a b h) =
    let after : after_line (a ++ 10 ∷ b) ≡ b = ap (drop 1) (from_feed-at_feed a b h) in
    inl (omega (arith, ap length (first_line-at_feed a b h), ap length after, length-append a (10 ∷ b)))

pub fault_from-nil : (given : Given) (number start total : ℕ) → fault_from given number start total [] ≡ at number (end_fault given.last)
unfolding fault_from
fault_from-nil given number start total = refl

pub fault_from-cons : (given : Given) (number start total : ℕ) (line : List ℕ) (later : List (List ℕ)) →
    fault_from given number start total (line ∷ later)
    ≡ option_or (at number (option_or (size_fault (is_large number (min (start + length line + 1) total) line)) (line_fault given line))) (fault_from (give_line given line) (number + 1) (start + length line + 1) total later)
unfolding fault_from
fault_from-cons given number start total line later = refl

pub given_from-nil : (given : Given) → given_from given [] ≡ given
unfolding given_from
given_from-nil given = refl

pub given_from-cons : (given : Given) (line : List ℕ) (later : List (List ℕ)) → given_from given (line ∷ later) ≡ given_from (give_line given line) later
unfolding given_from
given_from-cons given line later = refl

-- what one line does: whatever follows, it is told first
pub fault_step : (given : Given) (number total : ℕ) (rest : List ℕ) → 0 < length rest → length rest ≤ total →
    fault_from given number (total - length rest) total (lines rest)
    ≡ option_or (at number (option_or (size_fault (is_large number (total - length (after_line rest)) (first_line rest))) (line_fault given (first_line rest))))
    (fault_from (give_line given (first_line rest)) (number + 1) (total - length (after_line rest)) total (lines (after_line rest)))
fault_step given number total rest some within =
    let line = first_line rest in
    let start = total - length rest in
    let next = give_line given line in
    ap (fault_from given number start total) (lines-first rest some) ∙ fault_from-cons given number start total line (lines (after_line rest))
    ∙ by given number total rest within (ends (cut rest))
  where
    by : (given : Given) (number total : ℕ) (rest : List ℕ) → length rest ≤ total → Ends rest →
        option_or (at number (option_or (size_fault (is_large number (min (total - length rest + length (first_line rest) + 1) total) (first_line rest))) (line_fault given (first_line rest))))
        (fault_from (give_line given (first_line rest)) (number + 1) (total - length rest + length (first_line rest) + 1) total (lines (after_line rest)))
        ≡ option_or (at number (option_or (size_fault (is_large number (total - length (after_line rest)) (first_line rest))) (line_fault given (first_line rest))))
        (fault_from (give_line given (first_line rest)) (number + 1) (total - length (after_line rest)) total (lines (after_line rest)))
    by given number total rest within (inl e) =
        let start : total - length rest + length (first_line rest) + 1 ≡ total - length (after_line rest) = omega arith in
        let end : min (total - length rest + length (first_line rest) + 1) total ≡ total - length (after_line rest) = omega arith in
        rw (end, start) refl
    by given number total rest within (inr e) =
        let end : min (total - length rest + length (first_line rest) + 1) total ≡ total - length (after_line rest) = omega (arith, ap length e.0, e.1) in
        let none_left : lines (after_line rest) ≡ [] = ap lines e.0 ∙ lines-nil in
        rw (end, none_left, fault_from-nil, fault_from-nil) refl

pub given_step : (given : Given) (rest : List ℕ) → 0 < length rest → given_from given (lines rest) ≡ given_from (give_line given (first_line rest)) (lines (after_line rest))
given_step given rest some = ap (given_from given) (lines-first rest some) ∙ given_from-cons given (first_line rest) (lines (after_line rest))

pub fault_end : (given : Given) (number start total : ℕ) (rest : List ℕ) → rest ≡ [] → fault_from given number start total (lines rest) ≡ at number (end_fault given.last)
fault_end given number start total rest empty = ap (λ r. fault_from given number start total (lines r)) empty ∙ ap (fault_from given number start total) lines-nil ∙ fault_from-nil given number start total

pub given_end : (given : Given) (rest : List ℕ) → rest ≡ [] → given_from given (lines rest) ≡ given
given_end given rest empty = ap (λ r. given_from given (lines r)) empty ∙ ap (given_from given) lines-nil ∙ given_from-nil given

pub less_after : (rest : List ℕ) → 0 < length rest → length (after_line rest) < length rest
less_after rest some = by rest some (ends (cut rest))
  where
    by : (rest : List ℕ) → 0 < length rest → Ends rest → length (after_line rest) < length rest
    by rest some (inl e) = omega arith
    by rest some (inr e) = omega (arith, ap length e.0)

-- the same of a text that is read, where the line was cut off
pub stepped : (given : Given) (number : ℕ) (text rest line after : List ℕ) → 0 < length rest → length rest ≤ length text → line ≡ first_line rest → after ≡ after_line rest →
    fault_from given number (length text - length rest) (length text) (lines rest) ≡ first_fault text →
    option_or (at number (option_or (size_fault (is_large number (length text - length after) line)) (line_fault given line)))
    (fault_from (give_line given line) (number + 1) (length text - length after) (length text) (lines after)) ≡ first_fault text
stepped given number text rest line after some within line_is after_is read =
    rw (line_is, after_is) (sym (fault_step given number (length text) rest some within) ∙ read)

module _ (given : Given) (number : ℕ) (text rest line after : List ℕ) (some : 0 < length rest) (within : length rest ≤ length text) (line_is : line ≡ first_line rest) (after_is : after ≡ after_line rest)
    (read : fault_from given number (length text - length rest) (length text) (lines rest) ≡ first_fault text) where
  pub stops_large : is_large number (length text - length after) line ≡ true → first_fault text ≡ Some (number, Size)
  stops_large large = sym (stepped given number text rest line after some within line_is after_is read) ∙ rw large refl

  pub stops_faulty : (kind : Kind) → is_large number (length text - length after) line ≡ false → line_fault given line ≡ Some kind → first_fault text ≡ Some (number, kind)
  stops_faulty kind small faulty = sym (stepped given number text rest line after some within line_is after_is read) ∙ rw (small, faulty) refl

  pub goes_on : is_large number (length text - length after) line ≡ false → line_fault given line ≡ None →
      fault_from (give_line given line) (number + 1) (length text - length after) (length text) (lines after) ≡ first_fault text
  goes_on small sound = rw (small, sound) at (stepped given number text rest line after some within line_is after_is read)
