-- The variables of a table, and those between them.
use Rattle.std.proofs.Common.{◌≡◌, ℕ, zero, suc, nat_lt, ◌+◌, ◌-◌, ◌<◌, ◌≤◌, Bool, true, false, ◌&&◌, List, ◌∷◌, [], All, take, drop, length, get_or, min, max, refl, sym, ap, ◌∙◌, subst, arith}
use Rattle.std.proofs.lemmas.List.{take_more, take_all}
use Rattle.std.proofs.lemmas.List.Elements.{All-push}
use Rattle.std.proofs.Math.Nat.{min-le_left, min-le_right, le-max_left, le-max_right}
use Rattle.pc_diagram.specs.Words.{is_word}
use Rattle.pc_build.specs.declared.span.Span.{Span}
use Rattle.pc_build.specs.Demands.{Spans}
use Rattle.pc_build.proofs.WordLemmas.{word_length}

-- what holds of the first numbers and of one more
all_more : (P : ℕ → Type 0) (xs : List ℕ) (i : ℕ) → i < length xs → All P (take i xs) → P (get_or xs i 0) → All P (take (i + 1) xs)
all_more P xs i lt h one = subst (All P) (sym (take_more xs i 0 lt)) (All-push P (take i xs) (get_or xs i 0) h one)

-- the least of the first numbers is at most these and one more
pub from_more : (xs : List ℕ) (i first now : ℕ) → i < length xs → now ≡ min first (get_or xs i 0) → All (λ x. first ≤ x) (take i xs) → All (λ x. now ≤ x) (take (i + 1) xs)
from_more xs i first now lt is h =
    all_more (λ x. now ≤ x) xs i lt
    (λ k d within. let less = min-le_left first (get_or xs i 0) in let one = h k d within in omega (arith, is))
    (let less = min-le_right first (get_or xs i 0) in omega (arith, is))

pub to_more : (xs : List ℕ) (i last now : ℕ) → i < length xs → now ≡ max last (get_or xs i 0) → All (λ x. x ≤ last) (take i xs) → All (λ x. x ≤ now) (take (i + 1) xs)
to_more xs i last now lt is h =
    all_more (λ x. x ≤ now) xs i lt
    (λ k d within. let more = le-max_left last (get_or xs i 0) in let one = h k d within in omega (arith, is))
    (let more = le-max_right last (get_or xs i 0) in omega (arith, is))

-- numbers from the least to the greatest are in their span
pub spans : (xs : List ℕ) (i : ℕ) (span : Span) (last : ℕ) → length xs ≤ i → span.first ≤ last → span.count ≡ last - span.first + 1 → All (λ x. span.first ≤ x) (take i xs) → All (λ x. x ≤ last) (take i xs) → Spans xs span
spans xs i span last end order count_is from to = record {
  from = subst (All (λ x. span.first ≤ x)) (take_all i xs end) from;
  within = λ k d lt. let one = subst (All (λ x. x ≤ last)) (take_all i xs end) to k d lt in omega (arith, count_is);
}

-- a word's rest is a word over the domains that are left
pub rest_is_word : (domains word : List ℕ) (n : ℕ) → is_word domains word ≡ true → is_word (drop n domains) (drop n word) ≡ true
rest_is_word domains word zero h = h
rest_is_word [] [] (suc n) h = refl
rest_is_word [] (value ∷ word) (suc n) h = absurd cc
rest_is_word (domain ∷ domains) [] (suc n) h = absurd cc
rest_is_word (domain ∷ domains) (value ∷ word) (suc n) h = rest_is_word domains word n (second (nat_lt value domain) (is_word domains word) h)
  where
    second : (a b : Bool) → (a && b) ≡ true → b ≡ true
    second true b e = e
    second false b e = absurd cc

-- what is asked of the rest of a word is asked of the word
pub among_rests : (domains word : List ℕ) (n : ℕ) (a b : Bool) → (length word ≡ length domains → a ≡ b) → (is_word domains word && (is_word (drop n domains) (drop n word) && a)) ≡ (is_word domains word && b)
among_rests domains word n a b h = by (is_word domains word) refl
  where
    by : (is : Bool) → is_word domains word ≡ is → (is && (is_word (drop n domains) (drop n word) && a)) ≡ (is && b)
    by true e = ap (λ c. c && a) (rest_is_word domains word n e) ∙ h (word_length domains word e)
    by false e = refl
