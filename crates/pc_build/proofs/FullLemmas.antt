-- The size of the set of all words over numbers of values.
use Rattle.std.proofs.Common.{◌≡◌, ℕ, suc, ◌+◌, ◌≤◌, nat_eq, nat_lt, Bool, true, false, cond, ◌&&◌, ◌||◌, List, [], ◌∷◌, ◌++◌, map, filter, sum, length, take, drop, get_or, All, refl, sym, ap, ◌∙◌, subst, arith}
use Rattle.std.specs.Cmp.Lexicographic.{pointwise}
use Rattle.std.specs.List.{list_any, range_with_len}
use Rattle.std.specs.Set.{is_member, unique_keys, distinct_count}
use Rattle.std.proofs.lemmas.Bool.Decides.{nat_tests}
use Rattle.std.proofs.lemmas.List.{take-append-drop}
use Rattle.std.proofs.lemmas.List.Folds.{list_any_at}
use Rattle.std.proofs.lemmas.List.Sums.{sum_by-cons}
use Rattle.std.proofs.lemmas.List.FromFn.{length-range_with_len}
use Rattle.pc_base.proofs.DistinctLemmas.{both_true_parts}
use Rattle.pc_diagram.specs.Words.{is_word, all_words}
use Rattle.pc_diagram.specs.Rests.{rest, has_words, rest_count, size}
use Rattle.pc_diagram.proofs.WordLemmas.{all_words-is}

-- all members of a list are one
abbrev EachIs : {X : Type 0} → X → List X → Type 0
EachIs x [] = Unit {0}
EachIs x (y ∷ ys) = (y ≡ x) × EachIs x ys

each_kept : {X : Type 0} (p : X → Bool) (x : X) (xs : List X) → EachIs x xs → EachIs x (filter p xs)
each_kept p x [] h = tt
each_kept p x (y ∷ ys) h = by (p y) (each_kept p x ys h.1)
  where
    by : (b : Bool) → EachIs x (filter p ys) → EachIs x (cond b (y ∷ filter p ys) (filter p ys))
    by true rest = (h.0, rest)
    by false rest = rest

counted_once : {X : Type 0} (same : X → X → Bool) (x : X) (xs : List X) → same x x ≡ true → EachIs x xs → distinct_count same xs ≤ 1
counted_once same x [] itself h = omega arith
counted_once same x (y ∷ []) itself h = omega arith
counted_once same x (y ∷ z ∷ zs) itself h =
    let member : is_member same (z ∷ zs) y ≡ true = (λ i. same (h.0 i) (h.1.0 i) || list_any (same y) zs) ∙ ap (λ b. b || list_any (same y) zs) itself in
    subst (λ b. length (cond b (unique_keys same (z ∷ zs)) (y ∷ unique_keys same (z ∷ zs))) ≤ 1) (sym member) (counted_once same x (z ∷ zs) itself h.1)

equal_itself : (word : List ℕ) → pointwise nat_eq word word ≡ true
equal_itself [] = refl
equal_itself (v ∷ vs) = (λ i. same v i && equal_itself vs i)
  where
    same : (n : ℕ) → nat_eq n n ≡ true
    same n = grind (arith, nat_tests)

all_equal : (words : List (List ℕ)) → pointwise (pointwise nat_eq) words words ≡ true
all_equal [] = refl
all_equal (word ∷ words) = (λ i. equal_itself word i && all_equal words i)

-- the words over numbers of values
pub are_words : (domains : List ℕ) → All (λ word. is_word domains word ≡ true) (all_words domains)
are_words domains k d lt = sym (all_words-is domains (get_or (all_words domains) k d)) ∙ list_any_at (pointwise nat_eq (get_or (all_words domains) k d)) (all_words domains) k d lt (equal_itself (get_or (all_words domains) k d))

is_word-append : (first left beginning word : List ℕ) → is_word first beginning ≡ true → is_word left word ≡ true → is_word (first ++ left) (beginning ++ word) ≡ true
is_word-append [] left [] word a b = b
is_word-append [] left (v ∷ vs) word a b = absurd cc
is_word-append (d ∷ ds) left [] word a b = absurd cc
is_word-append (d ∷ ds) left (v ∷ vs) word a b = let parts = both_true_parts (nat_lt v d) (is_word ds vs) a in (λ i. parts.0 i && is_word-append ds left vs word parts.1 b i)

kept_all : {X : Type 0} (p : X → Bool) (xs : List X) → All (λ x. p x ≡ true) xs → filter p xs ≡ xs
kept_all p [] h = refl
kept_all p (x ∷ xs) h = ap (λ b. cond b (x ∷ filter p xs) (filter p xs)) (h 0 x (omega arith)) ∙ ap (λ ys. x ∷ ys) (kept_all p xs (λ k d lt. h (suc k) d (omega arith)))

-- every beginning goes on in all words left
module _ (first left : List ℕ) where
  one_rest : (beginning : List ℕ) → is_word first beginning ≡ true → rest (is_word (first ++ left)) left beginning ≡ all_words left
  one_rest beginning is = kept_all (λ word. is_word (first ++ left) (beginning ++ word)) (all_words left) (λ k d lt. is_word-append first left beginning (get_or (all_words left) k d) is (are_words left k d lt))

  same_rests : (words : List (List ℕ)) → All (λ word. is_word first word ≡ true) words → EachIs (all_words left) (map (rest (is_word (first ++ left)) left) words)
  same_rests [] h = tt
  same_rests (word ∷ words) h = (one_rest word (h 0 word (omega arith)), same_rests words (λ k d lt. h (suc k) d (omega arith)))

  one_class : rest_count (is_word (first ++ left)) first left ≤ 1
  one_class = counted_once (pointwise (pointwise nat_eq)) (all_words left) (filter has_words (map (rest (is_word (first ++ left)) left) (all_words first))) (all_equal (all_words left)) (each_kept has_words (all_words left) (map (rest (is_word (first ++ left)) left) (all_words first)) (same_rests (all_words first) (are_words first)))

-- a sum of numbers up to 1 is no more than they are many
small_sum : (f : ℕ → ℕ) (ns : List ℕ) → ((n : ℕ) → f n ≤ 1) → sum (map f ns) ≤ length ns
small_sum f [] h = omega arith
small_sum f (n ∷ ns) h = let first = h n in let rest = small_sum f ns h in let whole = sum_by-cons (λ x. x) (f n) (map f ns) in omega arith

-- the set of all words has one node a layer
pub full_size : (domains : List ℕ) → size domains (is_word domains) ≤ length domains + 1
full_size domains =
    let all = small_sum (λ count. rest_count (is_word domains) (take count domains) (drop count domains)) (range_with_len 0 (length domains + 1)) (λ count. subst (λ d. rest_count (is_word d) (take count domains) (drop count domains) ≤ 1) (take-append-drop count domains) (one_class (take count domains) (drop count domains))) in
    let count = length-range_with_len 0 (length domains + 1) in
    omega arith
