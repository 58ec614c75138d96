-- A text has no fault exactly where it is small enough and its significant lines have none, one after the other.
use Rattle.std.proofs.Common.{◌≡◌, ℕ, ◌+◌, ◌≤◌, ◌==◌, Bool, true, false, cond, min, List, [], ◌∷◌, length, Option, Some, None, refl, sym, ap, subst, ◌∙◌, inl, inr, arith}
use Rattle.std.specs.Prelude.{◌||◌, nat_lt}
use Rattle.std.specs.List.{filter, list_all, onto_first}
use Rattle.std.proofs.lemmas.Bool.{cases_Bool, ltb-false, le-ltb, le-leb, leb-true}
use Rattle.std.specs.Option.{option_or}
use Rattle.pc_base.specs.Lines.{lines}
use Rattle.pc_base.proofs.DistinctLemmas.{both_true_parts, both_false_parts}
use Rattle.pc_rules.specs.declared.kind.Kind.{Kind}
use Rattle.pc_names.specs.LineWords.{after_word}
use Rattle.pc_text.specs.Given.{Given, nothing_given, variables_given, catalogue_of, is_skipped, keyword_at, arguments_at, give_statement}
use Rattle.pc_text.specs.Orders.{statement_fault}
use Rattle.pc_rules.specs.RuleText.{rule_of}
use Rattle.pc_text.specs.FirstFault.{is_large, size_fault, line_fault, give_line, end_fault, at, fault_from, given_from, first_fault, given_by}
use Rattle.pc_text.specs.Spells.{is_small_line, is_significant, significant_lines, IsSmallText}
use Rattle.pc_text.proofs.FaultLemmas.{fault_from-nil, fault_from-cons, given_from-cons}
use Rattle.pc_text.proofs.StatementFaults.{neither_parts}

-- no line has a fault after those before it, nor has the end
abbrev pub Faultless : Given → List (List ℕ) → Type 0
Faultless given [] = end_fault given.last ≡ None
Faultless given (line ∷ later) = (line_fault given line ≡ None) × Faultless (give_line given line) later

-- one line

pub skipped_fault : (given : Given) (line : List ℕ) → is_skipped line ≡ true → line_fault given line ≡ None
unfolding line_fault
skipped_fault given line is = rw is refl

pub skipped_give : (given : Given) (line : List ℕ) → is_skipped line ≡ true → give_line given line ≡ given
unfolding give_line
skipped_give given line is = rw is refl

pub kept_fault : (given : Given) (line : List ℕ) → is_skipped line ≡ false →
    line_fault given line ≡ statement_fault given (keyword_at line) (arguments_at line) (rule_of (catalogue_of (variables_given given)) (after_word line))
unfolding line_fault
kept_fault given line is = rw is refl

pub kept_give : (given : Given) (line : List ℕ) → is_skipped line ≡ false →
    give_line given line ≡ give_statement given (keyword_at line) (arguments_at line) (rule_of (catalogue_of (variables_given given)) (after_word line))
unfolding give_line
kept_give given line is = rw is refl

-- lines that are skipped neither have a fault nor give anything

pub kept_lines : (line : List ℕ) (later : List (List ℕ)) → is_skipped line ≡ false → filter is_significant (line ∷ later) ≡ line ∷ filter is_significant later
kept_lines line later is = rw is refl

pub skipped_lines : (line : List ℕ) (later : List (List ℕ)) → is_skipped line ≡ true → filter is_significant (line ∷ later) ≡ filter is_significant later
skipped_lines line later is = rw is refl

pub given_significant : (given : Given) (all : List (List ℕ)) → given_from given (filter is_significant all) ≡ given_from given all
given_significant given [] = refl
given_significant given (line ∷ later) =
    elim (cases_Bool (is_skipped line)) [
      | inl is ↦
          ap (given_from given) (skipped_lines line later is) ∙ given_significant given later
          ∙ sym (given_from-cons given line later ∙ ap (λ g. given_from g later) (skipped_give given line is))
      | inr is ↦
          ap (given_from given) (kept_lines line later is) ∙ given_from-cons given line (filter is_significant later)
          ∙ given_significant (give_line given line) later ∙ sym (given_from-cons given line later)
    ]

pub faultless_all : (given : Given) (all : List (List ℕ)) → Faultless given (filter is_significant all) → Faultless given all
faultless_all given [] none = none
faultless_all given (line ∷ later) none =
    elim (cases_Bool (is_skipped line)) [
      | inl is ↦
          let rest = faultless_all given later (subst (Faultless given) (skipped_lines line later is) none) in
          (skipped_fault given line is, subst (λ g. Faultless g later) (sym (skipped_give given line is)) rest)
      | inr is ↦ let parts = subst (Faultless given) (kept_lines line later is) none in (parts.0, faultless_all (give_line given line) later parts.1)
    ]

-- the bytes of lines, each with a line feed
abbrev extent : List (List ℕ) → ℕ
extent [] = 0
extent (line ∷ later) = length line + 1 + extent later

extent-onto_first : (byte : ℕ) (all : List (List ℕ)) → 1 + extent all ≤ extent (onto_first byte all)
extent-onto_first byte [] = omega arith
extent-onto_first byte (line ∷ later) = omega arith

extent-lines : (text : List ℕ) → length text ≤ extent (lines text)
unfolding lines
extent-lines [] = omega arith
extent-lines (byte ∷ text) = by (byte == 10) (extent-lines text)
  where
    by : (b : Bool) → length text ≤ extent (lines text) → length (byte ∷ text) ≤ extent (cond b ([] ∷ lines text) (onto_first byte (lines text)))
    by true rest = omega arith
    by false rest = omega (arith, extent-onto_first byte (lines text))

-- sizes

at_none : (number : ℕ) (fault : Option Kind) → at number fault ≡ None → fault ≡ None
at_none number None e = refl
at_none number (Some kind) e = absurd cc

size_none : (large : Bool) → size_fault large ≡ None → large ≡ false
size_none true e = absurd cc
size_none false e = refl

record Parts (given : Given) (number start total : ℕ) (all : List (List ℕ)) : Type 0 where
  faultless : Faultless given all
  each_line : list_all is_small_line all ≡ true
  numbers : number + length all ≤ 8193
  ends : min (start + extent all) total ≤ 1048576

parts : (given : Given) (number start total : ℕ) (all : List (List ℕ)) → number ≤ 8193 → min start total ≤ 1048576 → fault_from given number start total all ≡ None → Parts given number start total all
parts given number start total [] few small none =
    record { faultless = at_none number (end_fault given.last) (sym (fault_from-nil given number start total) ∙ none); each_line = refl; numbers = omega arith; ends = omega arith }
parts given number start total (line ∷ later) few small none =
    let end = min (start + length line + 1) total in
    let large = is_large number end line in
    let next = start + length line + 1 in
    let both = neither_parts (at number (option_or (size_fault large) (line_fault given line))) (fault_from (give_line given line) (number + 1) next total later) (sym (fault_from-cons given number start total line later) ∙ none) in
    let here = neither_parts (size_fault large) (line_fault given line) (at_none number _ both.0) in
    let sizes = both_false_parts (nat_lt 65536 (length line) || nat_lt 8192 number) (nat_lt 1048576 end) (size_none large here.0) in
    let line_sizes = both_false_parts (nat_lt 65536 (length line)) (nat_lt 8192 number) sizes.0 in
    let short : length line ≤ 65536 = ltb-false 65536 (length line) line_sizes.0 in
    let early : number ≤ 8192 = ltb-false 8192 number line_sizes.1 in
    let within : end ≤ 1048576 = ltb-false 1048576 end sizes.1 in
    let rest = parts (give_line given line) (number + 1) next total later (omega arith) within both.1 in
    record {
      faultless = (here.1, rest.faultless);
      each_line = rw (le-leb (length line) 65536 short, rest.each_line) refl;
      numbers = omega (arith, rest.numbers);
      ends = omega (arith, rest.ends);
    }

whole : (given : Given) (number start total : ℕ) (all : List (List ℕ)) → list_all is_small_line all ≡ true → number + length all ≤ 8193 → total ≤ 1048576 → Faultless given all →
    fault_from given number start total all ≡ None
whole given number start total [] each few small none = fault_from-nil given number start total ∙ ap (at number) none
whole given number start total (line ∷ later) each few small none =
    let end = min (start + length line + 1) total in
    let next = start + length line + 1 in
    let lengths = both_true_parts (is_small_line line) (list_all is_small_line later) each in
    let short : length line ≤ 65536 = leb-true (length line) 65536 lengths.0 in
    let not_large : is_large number end line ≡ false = rw (le-ltb 65536 (length line) short, le-ltb 8192 number (omega arith), le-ltb 1048576 end (omega arith)) refl in
    let rest = whole (give_line given line) (number + 1) next total later lengths.1 (omega arith) small none.1 in
    fault_from-cons given number start total line later ∙ rw (not_large, none.0, rest) refl

-- the two directions

pub no_fault_parts : (text : List ℕ) → first_fault text ≡ None → IsSmallText text × Faultless nothing_given (lines text)
no_fault_parts text none =
    let p = parts nothing_given 1 0 (length text) (lines text) (omega arith) (omega arith) none in
    let long = extent-lines text in
    (record { bytes_at_most = omega (arith, p.ends); lines_at_most = omega (arith, p.numbers); each_line = p.each_line }, p.faultless)

pub no_fault_from_parts : (text : List ℕ) → IsSmallText text → Faultless nothing_given (significant_lines text) → first_fault text ≡ None
no_fault_from_parts text small none =
    whole nothing_given 1 0 (length text) (lines text) small.each_line (omega (arith, small.lines_at_most)) small.bytes_at_most (faultless_all nothing_given (lines text) none)

pub given_by_significant : (text : List ℕ) → given_by text ≡ given_from nothing_given (significant_lines text)
given_by_significant text = sym (given_significant nothing_given (lines text))
