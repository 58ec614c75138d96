-- The list of the words that pass a test: which they are, and their order.
use Rattle.std.proofs.Common.{◌≡◌, ◌≢◌, ℕ, zero, suc, ◌+◌, ◌<◌, nat_lt, nat_eq, Bool, true, false, ◌&&◌, ◌||◌, List, [], ◌∷◌, ◌++◌, map, filter, refl, sym, ap, ◌∙◌, arith, Contains, true≢false, get_or}
use Rattle.std.specs.List.{flat_map, range_with_len, AllByRecursion, AllPairs}
use Rattle.std.proofs.lemmas.Cmp.{nat_list_eq_equiv}
use Rattle.std.proofs.lemmas.Bool.Decides.{nat_tests}
use Rattle.std.proofs.lemmas.List.Elements.{All-from_recursion}
use Rattle.std.proofs.lemmas.List.Kept.{AllPairs-cons, AllPairs-filter}
use Rattle.std.proofs.lemmas.Map.Views.{list_any-from_Contains, Contains-from_any}
use Rattle.pc_base.proofs.DistinctLemmas.{both_true_parts}
use Rattle.pc_names.proofs.Places.{name_eq-Decides}
use Rattle.pc_diagram.specs.Words.{is_word, all_words}
use Rattle.pc_diagram.proofs.WordLemmas.{kept_words-is}
use Rattle.pc_file.specs.WordOrder.{is_before}

pub kept_only : (p : List ℕ → Bool) (counts word : List ℕ) → Contains (filter p (all_words counts)) word → (is_word counts word ≡ true) × (p word ≡ true)
kept_only p counts word there =
    let parts = both_true_parts (p word) (is_word counts word) (sym (kept_words-is p counts word) ∙ list_any-from_Contains nat_list_eq_equiv word (filter p (all_words counts)) there) in
    (parts.1, parts.0)

pub kept_each : (p : List ℕ → Bool) (counts word : List ℕ) → is_word counts word ≡ true → p word ≡ true → Contains (filter p (all_words counts)) word
kept_each p counts word shaped passes =
    Contains-from_any (λ x y same. (name_eq-Decides x y).0 same) word (filter p (all_words counts)) (kept_words-is p counts word ∙ ap (λ b. b && is_word counts word) passes ∙ shaped)

-- the words that begin with one value
abbrev begin : List (List ℕ) → ℕ → List (List ℕ)
begin rests value = map (λ rest. value ∷ rest) rests

-- a word before another, as a fact
abbrev pub Before : List ℕ → List ℕ → Type 0
Before word other = is_before word other ≡ true

-- each word is before all later ones
abbrev Ordered : List (List ℕ) → Type 0
Ordered [] = Unit {0}
Ordered (word ∷ words) = AllByRecursion (Before word) words × Ordered words

all_append : (P : List ℕ → Type 0) (xs ys : List (List ℕ)) → AllByRecursion P xs → AllByRecursion P ys → AllByRecursion P (xs ++ ys)
all_append P [] ys in_xs in_ys = in_ys
all_append P (x ∷ xs) ys in_xs in_ys = (in_xs.0, all_append P xs ys in_xs.1 in_ys)

ordered_append : (xs ys : List (List ℕ)) → Ordered xs → Ordered ys → AllByRecursion (λ x. AllByRecursion (Before x) ys) xs → Ordered (xs ++ ys)
ordered_append [] ys in_xs in_ys across = in_ys
ordered_append (x ∷ xs) ys in_xs in_ys across = (all_append (Before x) xs ys in_xs.0 across.0, ordered_append xs ys in_xs.1 in_ys across.1)

same_head : (v : ℕ) (word other : List ℕ) → Before word other → Before (v ∷ word) (v ∷ other)
same_head v word other h = by (nat_lt v v) (nat_eq v v) itself
  where
    itself : nat_eq v v ≡ true
    itself = grind (arith, nat_tests)

    by : (a b : Bool) → b ≡ true → (a || (b && is_before word other)) ≡ true
    by true b e = refl
    by false b e = ap (λ x. x && is_before word other) e ∙ h

lower_head : (v w : ℕ) (word other : List ℕ) → v < w → Before (v ∷ word) (w ∷ other)
lower_head v w word other less = ap (λ a. a || (nat_eq v w && is_before word other)) below
  where
    below : nat_lt v w ≡ true
    below = grind (arith, nat_tests, less)

before_begun : (v : ℕ) (word : List ℕ) (rests : List (List ℕ)) → AllByRecursion (Before word) rests → AllByRecursion (Before (v ∷ word)) (begin rests v)
before_begun v word [] h = tt
before_begun v word (rest ∷ rests) h = (same_head v word rest h.0, before_begun v word rests h.1)

begin_ordered : (v : ℕ) (rests : List (List ℕ)) → Ordered rests → Ordered (begin rests v)
begin_ordered v [] h = tt
begin_ordered v (rest ∷ rests) h = (before_begun v rest rests h.0, begin_ordered v rests h.1)

before_higher : (v w : ℕ) (word : List ℕ) (rests : List (List ℕ)) → v < w → AllByRecursion (Before (v ∷ word)) (begin rests w)
before_higher v w word [] less = tt
before_higher v w word (rest ∷ rests) less = (lower_head v w word rest less, before_higher v w word rests less)

before_all_higher : (v w n : ℕ) (word : List ℕ) (rests : List (List ℕ)) → v < w → AllByRecursion (Before (v ∷ word)) (flat_map (begin rests) (range_with_len w n))
before_all_higher v w zero word rests less = tt
before_all_higher v w (suc n) word rests less =
    all_append (Before (v ∷ word)) (begin rests w) (flat_map (begin rests) (range_with_len (w + 1) n)) (before_higher v w word rests less) (before_all_higher v (w + 1) n word rests (omega arith))

across_begun : (v : ℕ) (later rests : List (List ℕ)) → ((word : List ℕ) → AllByRecursion (Before (v ∷ word)) later) → AllByRecursion (λ x. AllByRecursion (Before x) later) (begin rests v)
across_begun v later [] h = tt
across_begun v later (rest ∷ rests) h = (h rest, across_begun v later rests h)

first_ordered : (v n : ℕ) (rests : List (List ℕ)) → Ordered rests → Ordered (flat_map (begin rests) (range_with_len v n))
first_ordered v zero rests h = tt
first_ordered v (suc n) rests h =
    let later = flat_map (begin rests) (range_with_len (v + 1) n) in
    ordered_append (begin rests v) later (begin_ordered v rests h) (first_ordered (v + 1) n rests h)
    (across_begun v later rests (λ word. before_all_higher v (v + 1) n word rests (omega arith)))

all_words-ordered : (counts : List ℕ) → Ordered (all_words counts)
all_words-ordered [] = (tt, tt)
all_words-ordered (n ∷ counts) = first_ordered 0 n (all_words counts) (all_words-ordered counts)

ordered_pairs : (words : List (List ℕ)) → Ordered words → AllPairs Before words
ordered_pairs [] h = λ i j d less within. absurd (omega arith)
ordered_pairs (word ∷ words) h = AllPairs-cons Before word words (All-from_recursion (Before word) words h.0) (ordered_pairs words h.1)

-- the words that pass a test are in order
pub kept_ordered : (p : List ℕ → Bool) (counts : List ℕ) → AllPairs Before (filter p (all_words counts))
kept_ordered p counts = AllPairs-filter Before p (all_words counts) (ordered_pairs (all_words counts) (all_words-ordered counts))

not_before_itself : (word : List ℕ) → is_before word word ≡ false
not_before_itself [] = refl
not_before_itself (v ∷ word) = by (not_before_itself word)
  where
    not_less : nat_lt v v ≡ false
    not_less = grind (arith, nat_tests)

    itself : nat_eq v v ≡ true
    itself = grind (arith, nat_tests)

    by : is_before word word ≡ false → (nat_lt v v || (nat_eq v v && is_before word word)) ≡ false
    by rest = ap (λ a. a || (nat_eq v v && is_before word word)) not_less ∙ ap (λ b. b && is_before word word) itself ∙ rest

-- words in order differ
pub ordered_differ : (words : List (List ℕ)) → AllPairs Before words → AllPairs (λ a b. a ≢ b) words
ordered_differ words ordered i j d less within same =
    true≢false (sym (ordered i j d less within) ∙ ap (is_before (get_or words i d)) (sym same) ∙ not_before_itself (get_or words i d))
