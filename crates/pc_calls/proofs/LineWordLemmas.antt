-- Words are cut off a line one after the other.
use Rattle.std.proofs.Common.{◌≡◌, ℕ, ◌+◌, ◌<◌, ◌≤◌, Bool, true, false, not, List, [], ◌∷◌, length, drop, get_or, add-zero, min, ◌-◌, take, subst, refl, sym, ap, ◌∙◌, inl, inr, arith, length-drop}
use Rattle.std.proofs.Math.Numerals.{one-add}
use Rattle.std.specs.List.{position_or_len}
use Rattle.std.proofs.Math.Seq.{drop-cons, drop-drop}
use Rattle.std.proofs.lemmas.Bool.{cases_Bool, ltb-true, ltb-false}
use Rattle.std.proofs.lemmas.Grind.{common_steps}
use Rattle.std.proofs.lemmas.List.{drop_all}
use Rattle.std.proofs.lemmas.List.Sums.{passes_at_first}
use Rattle.std.specs.Prelude.{nat_lt}
use Rattle.pc_names.specs.Spaces.{is_space, goes_on}
use Rattle.pc_names.proofs.SpaceLemmas.{front, front-space, front-byte}
use Rattle.pc_calls.specs.LineWords.{LineWord, joined, words_at, words_from}

words_at-space : (place b : ℕ) (bs : List ℕ) → is_space b ≡ true → words_at place (b ∷ bs) ≡ words_at (place + 1) bs
unfolding words_at
words_at-space place b bs e = rw e refl

words_at-last : (place b : ℕ) (bs : List ℕ) → is_space b ≡ false → goes_on bs ≡ false → words_at place (b ∷ bs) ≡ record { place = place; bytes = b ∷ [] } ∷ words_at (place + 1) bs
unfolding words_at
words_at-last place b bs e f = rw (e, f) refl

words_at-more : (place b : ℕ) (bs : List ℕ) → is_space b ≡ false → goes_on bs ≡ true → words_at place (b ∷ bs) ≡ joined place b (words_at (place + 1) bs)
unfolding words_at
words_at-more place b bs e f = rw (e, f) refl

pub words_at-nil : (place : ℕ) → words_at place [] ≡ []
unfolding words_at
words_at-nil place = refl

-- how many spaces stand before the first other byte
abbrev pub spaces : List ℕ → ℕ
spaces bytes = position_or_len (λ byte. not (is_space byte)) bytes

spaces-space : (b : ℕ) (bs : List ℕ) → is_space b ≡ true → spaces (b ∷ bs) ≡ 1 + spaces bs
spaces-space b bs e = rw e refl

spaces-byte : (b : ℕ) (bs : List ℕ) → is_space b ≡ false → spaces (b ∷ bs) ≡ 0
spaces-byte b bs e = rw e refl

-- spaces before a word change nothing
skip : (place : ℕ) (bytes : List ℕ) → words_at place bytes ≡ words_at (place + spaces bytes) (drop (spaces bytes) bytes)
skip place [] = words_at-nil place ∙ sym (words_at-nil (place + 0))
skip place (b ∷ bs) =
    elim (cases_Bool (is_space b)) [
      | inl is ↦
          let further : (place + 1) + spaces bs ≡ place + (1 + spaces bs) = omega arith in
          words_at-space place b bs is ∙ skip (place + 1) bs ∙ ap (λ p. words_at p (drop (spaces bs) bs)) further ∙ sym (rw (spaces-space b bs is, one-add) refl)
      | inr is ↦ sym (rw (spaces-byte b bs is, add-zero) refl)
    ]

-- what comes of bytes after a first word of these bytes
abbrev after : ℕ → List ℕ → List ℕ → List LineWord
after place word bytes = record { place = place; bytes = word } ∷ words_at (place + length word) (drop (length word) bytes)

-- a word reaches up to the first space
first : (place b : ℕ) (bs : List ℕ) → is_space b ≡ false → words_at place (b ∷ bs) ≡ after place (front (b ∷ bs)) (b ∷ bs)
first place b [] is = words_at-last place b [] is refl ∙ sym (ap (λ w. after place w (b ∷ [])) (front-byte b [] is))
first place b (c ∷ cs) is =
    elim (cases_Bool (is_space c)) [
      | inl ends ↦
          words_at-last place b (c ∷ cs) is (ap not ends)
          ∙ sym (ap (λ w. after place w (b ∷ c ∷ cs)) (front-byte b (c ∷ cs) is ∙ ap (λ w. b ∷ w) (front-space c cs ends)))
      | inr goes ↦
          let further : (place + 1) + length (front (c ∷ cs)) ≡ place + length (b ∷ front (c ∷ cs)) = omega arith in
          words_at-more place b (c ∷ cs) is (ap not goes) ∙ ap (joined place b) (first (place + 1) c cs goes)
          ∙ ap (λ p. record { place = place; bytes = b ∷ front (c ∷ cs) } ∷ words_at p (drop (length (front (c ∷ cs))) (c ∷ cs))) further
          ∙ sym (ap (λ w. after place w (b ∷ c ∷ cs)) (front-byte b (c ∷ cs) is))
    ]

at_byte : (place : ℕ) (bytes : List ℕ) → 0 < length bytes → is_space (get_or bytes 0 0) ≡ false → words_at place bytes ≡ after place (front bytes) bytes
at_byte place [] some is = absurd (omega arith)
at_byte place (b ∷ bs) some is = first place b bs is

no_space : (b : Bool) → not b ≡ true → b ≡ false
no_space true e = sym e
no_space false e = refl

-- past the spaces before it, a word begins
pub first_word_at : (place k : ℕ) (bytes : List ℕ) → k ≡ spaces bytes → k < length bytes → words_at place bytes ≡ after (place + k) (front (drop k bytes)) (drop k bytes)
first_word_at place k bytes at within =
    let n = spaces bytes in
    let below : n < length bytes = omega arith in
    let byte = no_space (is_space (get_or bytes n 0)) (passes_at_first (λ byte. not (is_space byte)) bytes 0 below) in
    let same : get_or (drop n bytes) 0 0 ≡ get_or bytes n 0 = ap (λ l. get_or l 0 0) (drop-cons bytes n 0 below) in
    let some : 0 < length (drop n bytes) = omega (arith, length-drop n bytes) in
    let word = skip place bytes ∙ at_byte (place + n) (drop n bytes) some (ap is_space same ∙ byte) in
    subst (λ j. words_at place bytes ≡ after (place + j) (front (drop j bytes)) (drop j bytes)) (sym at) word

pub no_word_at : (place : ℕ) (bytes : List ℕ) → length bytes ≤ spaces bytes → words_at place bytes ≡ []
no_word_at place bytes past =
    let n = spaces bytes in
    skip place bytes ∙ ap (words_at (place + n)) (drop_all n bytes past) ∙ words_at-nil (place + n)

-- the same of the words of a line from a byte on, which may lie past its end
pub no_word_from : (line : List ℕ) (from start : ℕ) → start ≡ min from (length line) → length (drop start line) ≤ spaces (drop start line) → words_from line from ≡ []
no_word_from line from start at none =
    elim (cases_Bool (nat_lt (length line) from)) [
      | inl past ↦
          let beyond : length line < from = ltb-true (length line) from past in
          ap (words_at from) (drop_all from line (omega arith)) ∙ words_at-nil from
      | inr within ↦
          let inside : from ≤ length line = ltb-false (length line) from within in
          let same : start ≡ from = omega arith in
          no_word_at from (drop from line) (subst (λ n. length (drop n line) ≤ spaces (drop n line)) same none)
    ]

pub first_word_from : (line : List ℕ) (from start k : ℕ) (word : List ℕ) → start ≡ min from (length line) → k ≡ spaces (drop start line) → k < length (drop start line) → word ≡ front (drop k (drop start line)) →
    words_from line from ≡ record { place = start + k; bytes = word } ∷ words_from line (start + k + length word)
first_word_from line from start k word at some within is =
    let here = first_word_at start k (drop start line) some within in
    let same : start ≡ from = omega (arith, length-drop start line) in
    let further : drop (length word) (drop k (drop start line)) ≡ drop ((start + k) + length word) line =
    ap (drop (length word)) (drop-drop k start line) ∙ drop-drop (length word) (start + k) line in
    ap (λ n. words_from line n) (sym same) ∙ here ∙ ap (λ w. after (start + k) w (drop k (drop start line))) (sym is)
    ∙ ap (λ rest. record { place = start + k; bytes = word } ∷ words_at ((start + k) + length word) rest) further

-- the slice from a place on is the rest of the list
pub slice_rest : (n : ℕ) (l : List ℕ) → take (length l - n) (drop n l) ≡ drop n l
slice_rest n l = grind (arith, common_steps)
