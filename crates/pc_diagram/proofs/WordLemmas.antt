-- The list of all words, and those of them that pass a test.
use Rattle.std.proofs.Common.{◌≡◌, ℕ, zero, suc, ◌+◌, nat_lt, nat_eq, Bool, true, false, ◌&&◌, ◌||◌, List, [], ◌∷◌, ◌++◌, map, filter, refl, sym, ap, ◌∙◌, subst, arith, add-one}
use Rattle.std.specs.List.{list_any, flat_map, range_with_len}
use Rattle.std.specs.Cmp.Lexicographic.{pointwise}
use Rattle.std.proofs.lemmas.Bool.Decides.{nat_tests}
use Rattle.std.proofs.lemmas.List.{append-nil, map-id}
use Rattle.std.proofs.lemmas.List.Folds.{list_any-append}
use Rattle.std.proofs.lemmas.List.FromFn.{map-range_with_len_more}
use Rattle.std.proofs.lemmas.Map.Views.{any-filter_same}
use Rattle.std.proofs.lemmas.Slice.Eq.{bytes_eq-Decides}
use Rattle.std.proofs.lemmas.Grind.{flat_map-append}
use Rattle.pc_diagram.specs.Words.{is_word, all_words}

-- one number more
pub range_more : (n : ℕ) → range_with_len 0 (n + 1) ≡ range_with_len 0 n ++ n ∷ []
range_more n =
    sym (map-id (range_with_len 0 (n + 1))) ∙ map-range_with_len_more (λ x. x) 0 n n (omega arith) ∙ ap (λ xs. xs ++ n ∷ []) (map-id (range_with_len 0 n))

-- the words that begin with one value
abbrev begin : List (List ℕ) → ℕ → List (List ℕ)
begin rests value = map (λ rest. value ∷ rest) rests

none_empty : (rests : List (List ℕ)) (value : ℕ) → list_any (pointwise nat_eq []) (begin rests value) ≡ false
none_empty [] value = refl
none_empty (rest ∷ rests) value = none_empty rests value

none_empty_all : (rests : List (List ℕ)) (values : List ℕ) → list_any (pointwise nat_eq []) (flat_map (begin rests) values) ≡ false
none_empty_all rests [] = refl
none_empty_all rests (value ∷ values) =
    list_any-append (pointwise nat_eq []) (begin rests value) (flat_map (begin rests) values)
    ∙ ap (λ b. b || list_any (pointwise nat_eq []) (flat_map (begin rests) values)) (none_empty rests value) ∙ none_empty_all rests values

-- one of those that begin with a value
one_begins : (rests : List (List ℕ)) (value v : ℕ) (word : List ℕ) → list_any (pointwise nat_eq (v ∷ word)) (begin rests value) ≡ (nat_eq v value && list_any (pointwise nat_eq word) rests)
one_begins [] value v word = by (nat_eq v value)
  where
    by : (b : Bool) → false ≡ (b && false)
    by true = refl
    by false = refl
one_begins (rest ∷ rests) value v word =
    ap (λ more. (nat_eq v value && pointwise nat_eq word rest) || more) (one_begins rests value v word) ∙ by (nat_eq v value) (pointwise nat_eq word rest) (list_any (pointwise nat_eq word) rests)
  where
    by : (a b c : Bool) → ((a && b) || (a && c)) ≡ (a && (b || c))
    by true b c = refl
    by false b c = refl

below_more : (v n : ℕ) → (nat_lt v n || nat_eq v n) ≡ nat_lt v (n + 1)
below_more v n = grind (arith, nat_tests)

not_below : (v : ℕ) → nat_lt v 0 ≡ false
not_below v = grind (arith, nat_tests)

-- one of those that begin with one of the first values
one_of_first : (rests : List (List ℕ)) (n v : ℕ) (word : List ℕ) →
    list_any (pointwise nat_eq (v ∷ word)) (flat_map (begin rests) (range_with_len 0 n)) ≡ (nat_lt v n && list_any (pointwise nat_eq word) rests)
one_of_first rests zero v word = ap (λ b. b && list_any (pointwise nat_eq word) rests) (sym (not_below v))
one_of_first rests (suc n) v word = subst (λ k. list_any (pointwise nat_eq (v ∷ word)) (flat_map (begin rests) (range_with_len 0 k)) ≡ (nat_lt v k && list_any (pointwise nat_eq word) rests)) (add-one n) (more (one_of_first rests n v word))
  where
    spread : (a b c : Bool) → ((a && c) || (b && c)) ≡ ((a || b) && c)
    spread true true true = refl
    spread true true false = refl
    spread true false true = refl
    spread true false false = refl
    spread false b c = refl

    more : list_any (pointwise nat_eq (v ∷ word)) (flat_map (begin rests) (range_with_len 0 n)) ≡ (nat_lt v n && list_any (pointwise nat_eq word) rests) →
        list_any (pointwise nat_eq (v ∷ word)) (flat_map (begin rests) (range_with_len 0 (n + 1))) ≡ (nat_lt v (n + 1) && list_any (pointwise nat_eq word) rests)
    more before =
        let test = pointwise nat_eq (v ∷ word) in
        let there = list_any (pointwise nat_eq word) rests in
        ap (λ values. list_any test (flat_map (begin rests) values)) (range_more n)
        ∙ ap (list_any test) (flat_map-append (begin rests) (range_with_len 0 n) (n ∷ []) ∙ ap (λ ws. flat_map (begin rests) (range_with_len 0 n) ++ ws) (append-nil (begin rests n)))
        ∙ list_any-append test (flat_map (begin rests) (range_with_len 0 n)) (begin rests n)
        ∙ ap (λ b. b || list_any test (begin rests n)) before ∙ ap (λ b. (nat_lt v n && there) || b) (one_begins rests n v word)
        ∙ spread (nat_lt v n) (nat_eq v n) there ∙ ap (λ b. b && there) (below_more v n)

-- the words over domains are those that stand in the list of all
pub all_words-is : (domains word : List ℕ) → list_any (pointwise nat_eq word) (all_words domains) ≡ is_word domains word
all_words-is [] [] = refl
all_words-is [] (v ∷ word) = refl
all_words-is (n ∷ domains) [] = none_empty_all (all_words domains) (range_with_len 0 n)
all_words-is (n ∷ domains) (v ∷ word) = one_of_first (all_words domains) n v word ∙ ap (λ b. nat_lt v n && b) (all_words-is domains word)

-- a word is one of those that pass a test exactly where it is one of the words and passes
pub kept_words-is : (p : List ℕ → Bool) (domains word : List ℕ) → list_any (pointwise nat_eq word) (filter p (all_words domains)) ≡ (p word && is_word domains word)
kept_words-is p domains word =
    any-filter_same (pointwise nat_eq word) p (p word) (λ k same. ap p (sym ((bytes_eq-Decides word k).0 same))) (all_words domains)
    ∙ ap (λ b. p word && b) (all_words-is domains word)
