-- Words are cut off a line one after the other.
use Rattle.std.proofs.Common.{◌≡◌, ℕ, ◌<◌, true, false, not, List, [], ◌∷◌, length, drop, refl, sym, ap, ◌∙◌, inl, inr, arith, length-drop}
use Rattle.std.proofs.Math.Numerals.{one-add}
use Rattle.std.specs.List.{onto_first, position_or_len}
use Rattle.std.proofs.lemmas.Bool.{cases_Bool}
use Rattle.pc_names.specs.Spaces.{is_space, goes_on}
use Rattle.pc_names.proofs.SpaceLemmas.{front, front-space, front-byte}
use Rattle.pc_names.specs.LineWords.{words, from_word, first_word, after_word}

from_word-space : (b : ℕ) (bs : List ℕ) → is_space b ≡ true → from_word (b ∷ bs) ≡ from_word bs
unfolding from_word
from_word-space b bs e = rw (e, one-add) refl

from_word-byte : (b : ℕ) (bs : List ℕ) → is_space b ≡ false → from_word (b ∷ bs) ≡ b ∷ bs
unfolding from_word
from_word-byte b bs e = rw e refl

from_word-nil : from_word [] ≡ []
unfolding from_word
from_word-nil = refl

pub words-nil : words [] ≡ []
unfolding words
words-nil = refl

pub words-space : (b : ℕ) (bs : List ℕ) → is_space b ≡ true → words (b ∷ bs) ≡ words bs
unfolding words
words-space b bs e = rw e refl

pub words-last : (b : ℕ) (bs : List ℕ) → is_space b ≡ false → goes_on bs ≡ false → words (b ∷ bs) ≡ (b ∷ []) ∷ words bs
unfolding words
words-last b bs e f = rw (e, f) refl

pub words-more : (b : ℕ) (bs : List ℕ) → is_space b ≡ false → goes_on bs ≡ true → words (b ∷ bs) ≡ onto_first b (words bs)
unfolding words
words-more b bs e f = rw (e, f) refl

-- the bytes from the first space on
abbrev rest : List ℕ → List ℕ
rest bs = drop (position_or_len is_space bs) bs

rest-space : (b : ℕ) (bs : List ℕ) → is_space b ≡ true → rest (b ∷ bs) ≡ b ∷ bs
rest-space b bs e = rw e refl

rest-byte : (b : ℕ) (bs : List ℕ) → is_space b ≡ false → rest (b ∷ bs) ≡ rest bs
rest-byte b bs e = rw (e, one-add) refl

words-front : (b : ℕ) (bs : List ℕ) → is_space b ≡ false → words (b ∷ bs) ≡ front (b ∷ bs) ∷ words (rest (b ∷ bs))
words-front b [] e = words-last b [] e refl ∙ sym (rw (front-byte b [] e, rest-byte b [] e) refl)
words-front b (c ∷ cs) e =
    elim (cases_Bool (is_space c)) [
      | inl is ↦ words-last b (c ∷ cs) e (ap not is) ∙ sym (rw (front-byte b (c ∷ cs) e, rest-byte b (c ∷ cs) e, front-space c cs is, rest-space c cs is) refl)
      | inr is ↦ words-more b (c ∷ cs) e (ap not is) ∙ ap (onto_first b) (words-front c cs is) ∙ sym (rw (front-byte b (c ∷ cs) e, rest-byte b (c ∷ cs) e) refl)
    ]

-- a line has no word, or its first word and those after it
pub data Worded (line : List ℕ) : Type 0 where
  bare : first_word line ≡ [] → words line ≡ [] → Worded line
  worded : 0 < length (first_word line) → words line ≡ first_word line ∷ words (after_word line) → length (after_word line) < length line → Worded line

first_word-is : (line : List ℕ) → first_word line ≡ front (from_word line)
unfolding first_word
first_word-is line = refl

after_word-is : (line : List ℕ) → after_word line ≡ rest (from_word line)
unfolding after_word
after_word-is line = refl

at_space : (b : ℕ) (bs : List ℕ) → is_space b ≡ true → Worded bs → Worded (b ∷ bs)
at_space b bs is (bare none all) =
    bare (first_word-is (b ∷ bs) ∙ ap front (from_word-space b bs is) ∙ sym (first_word-is bs) ∙ none) (words-space b bs is ∙ all)
at_space b bs is (worded some all less) =
    let first : first_word (b ∷ bs) ≡ first_word bs = first_word-is (b ∷ bs) ∙ ap front (from_word-space b bs is) ∙ sym (first_word-is bs) in
    let after : after_word (b ∷ bs) ≡ after_word bs = after_word-is (b ∷ bs) ∙ ap rest (from_word-space b bs is) ∙ sym (after_word-is bs) in
    worded (rw first some) (words-space b bs is ∙ all ∙ sym (rw (first, after) refl)) (rw after (omega arith))

at_byte : (b : ℕ) (bs : List ℕ) → is_space b ≡ false → Worded (b ∷ bs)
at_byte b bs is =
    let first : first_word (b ∷ bs) ≡ b ∷ front bs = first_word-is (b ∷ bs) ∙ ap front (from_word-byte b bs is) ∙ front-byte b bs is in
    let after : after_word (b ∷ bs) ≡ rest bs = after_word-is (b ∷ bs) ∙ ap rest (from_word-byte b bs is) ∙ rest-byte b bs is in
    worded (rw first (omega arith)) (words-front b bs is ∙ sym (rw (first, after, front-byte b bs is, rest-byte b bs is) refl))
    (rw after (omega (arith, length-drop (position_or_len is_space bs) bs)))

pub cut_words : (line : List ℕ) → Worded line
cut_words [] = bare (first_word-is [] ∙ ap front from_word-nil) words-nil
cut_words (b ∷ bs) = elim (cases_Bool (is_space b)) [ inl is ↦ at_space b bs is (cut_words bs) | inr is ↦ at_byte b bs is ]

-- what an empty first word says
pub no_words : (line : List ℕ) → Worded line → length (first_word line) ≡ 0 → words line ≡ []
no_words line (bare none all) empty = all
no_words line (worded some all less) empty = absurd (omega arith)

-- and one that isn't empty
pub first_of_words : (line : List ℕ) → Worded line → 0 < length (first_word line) → (words line ≡ first_word line ∷ words (after_word line)) × (length (after_word line) < length line)
first_of_words line (bare none all) some = absurd (omega (arith, ap length none))
first_of_words line (worded some' all less) some = (all, less)
