-- Words, value by value.
use Rattle.std.proofs.Common.{◌≡◌, ℕ, zero, suc, ◌+◌, ◌<◌, nat_lt, Bool, true, false, ◌&&◌, List, [], ◌∷◌, drop, length, get_or, slice_get, Some, refl, sym, ap, ◌∙◌, arith, true≢false}
use Rattle.std.proofs.lemmas.Bool.{and_parts}
use Rattle.pc_diagram.specs.Words.{is_word}

pub and_assoc : (a b c : Bool) → (a && (b && c)) ≡ ((a && b) && c)
and_assoc true b c = refl
and_assoc false b c = refl

pub and_true : (a : Bool) → (a && true) ≡ a
and_true true = refl
and_true false = refl

pub drop_one_more : {X : Type 0} (n : ℕ) (x : X) (xs : List X) → drop (n + 1) (x ∷ xs) ≡ drop n xs
drop_one_more n x xs = let e : n + 1 ≡ suc n = omega arith in ap (λ k. drop k (x ∷ xs)) e

-- the value that a word takes at a variable, and what follows it
pub record TakenAt (domains word : List ℕ) (variable : ℕ) : Type 0 where
  pub value : ℕ
  pub rest : List ℕ
  pub word_is : drop variable word ≡ value ∷ rest
  pub taken : slice_get word variable ≡ Some value
  pub in_range : nat_lt value (get_or domains variable 0) ≡ true
  pub rest_is : is_word (drop (variable + 1) domains) rest ≡ true

pub taken_at : (domains word : List ℕ) (variable : ℕ) → variable < length domains → is_word domains word ≡ true → TakenAt domains word variable
taken_at [] word variable lt is = absurd (omega arith)
taken_at (domain ∷ domains) [] variable lt is = absurd (true≢false (sym is))
taken_at (domain ∷ domains) (value ∷ word) zero lt is =
    let parts = and_parts (nat_lt value domain) (is_word domains word) is in
    record { value = value; rest = word; word_is = refl; taken = refl; in_range = parts.0; rest_is = parts.1 }
taken_at (domain ∷ domains) (value ∷ word) (suc variable) lt is =
    let parts = and_parts (nat_lt value domain) (is_word domains word) is in
    let deeper = taken_at domains word variable (omega arith) parts.1 in
    let more : suc variable + 1 ≡ suc (variable + 1) = omega arith in
    record {
      value = deeper.value;
      rest = deeper.rest;
      word_is = deeper.word_is;
      taken = deeper.taken;
      in_range = deeper.in_range;
      rest_is = ap (λ k. is_word (drop k (domain ∷ domains)) deeper.rest) more ∙ deeper.rest_is;
    }

-- a word has as many values as there are variables
pub word_length : (domains word : List ℕ) → is_word domains word ≡ true → length word ≡ length domains
word_length [] [] is = refl
word_length [] (value ∷ word) is = absurd (true≢false (sym is))
word_length (domain ∷ domains) [] is = absurd (true≢false (sym is))
word_length (domain ∷ domains) (value ∷ word) is = let rest = word_length domains word (and_parts (nat_lt value domain) (is_word domains word) is).1 in omega arith

-- tests that agree on lists of that length agree among words
pub same_among_words : (domains word : List ℕ) (a b : Bool) → (length word ≡ length domains → a ≡ b) → (is_word domains word && a) ≡ (is_word domains word && b)
same_among_words domains word a b h = by (is_word domains word) refl
  where
    by : (is : Bool) → is_word domains word ≡ is → (is && a) ≡ (is && b)
    by true e = h (word_length domains word e)
    by false e = refl
