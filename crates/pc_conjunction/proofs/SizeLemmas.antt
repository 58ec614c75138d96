-- A set has no more nodes than places.
use Rattle.std.proofs.Common.{◌≡◌, ℕ, zero, suc, ◌+◌, ◌-◌, ◌<◌, ◌≤◌, Bool, false, List, [], ◌∷◌, ◌++◌, map, filter, length, get_or, take, drop, sum, reverse, refl, sym, ap, ◌∙◌, subst, arith, zero-add}
use Rattle.std.specs.List.{AllByRecursion, flat_map, range_with_len}
use Rattle.std.specs.Set.{distinct_count}
use Rattle.std.proofs.lemmas.List.{length-map, map-append, take-append-drop, take_more, length-reverse, get_or-reverse, reverse-reverse}
use Rattle.std.proofs.lemmas.List.FromFn.{sum_by-map-range_with_len_more}
use Rattle.pc_diagram.specs.Words.{all_words}
use Rattle.pc_diagram.specs.Rests.{rest, has_words, rest_count, size}
use Rattle.pc_store.proofs.DistinctLemmas.{same, distinct_most, at_most}
use Rattle.pc_conjunction.specs.declared.layer.Layer.{Layer}
use Rattle.pc_conjunction.specs.Places.{entry, place_count, domains, accepts, IsLayered}
use Rattle.pc_conjunction.proofs.PlaceLemmas.{two_places, empty_place, entry_within}
use Rattle.pc_conjunction.proofs.NarrowLemmas.{reverse_push}

-- how many places there are but those without words
abbrev pub bound : List Layer → ℕ
bound [] = 1
bound (layer ∷ layers) = (layer.count - 1) + bound layers

-- the places that the words over the first variables lead to
abbrev pub reached : List Layer → ℕ → List ℕ
reached [] place = place ∷ []
reached (layer ∷ layers) place = flat_map (λ value. reached layers (entry layer place value)) (range_with_len 0 (length layer.columns.items))

all_append : (P : ℕ → Type 0) (xs ys : List ℕ) → AllByRecursion P xs → AllByRecursion P ys → AllByRecursion P (xs ++ ys)
all_append P [] ys a b = b
all_append P (x ∷ xs) ys a b = (a.0, all_append P xs ys a.1 b)

all_flat_map : (P : ℕ → Type 0) (f : ℕ → List ℕ) (xs : List ℕ) → ((x : ℕ) → AllByRecursion P (f x)) → AllByRecursion P (flat_map f xs)
all_flat_map P f [] each = tt
all_flat_map P f (x ∷ xs) each = all_append P (f x) (flat_map f xs) (each x) (all_flat_map P f xs each)

-- what is reached are places
reached_within : (front back : List Layer) → IsLayered (front ++ back) → (place : ℕ) → place < place_count (front ++ back) → AllByRecursion (λ n. n < place_count back) (reached front place)
reached_within [] back h place lt = (lt, tt)
reached_within (layer ∷ front) back h place lt =
    all_flat_map (λ n. n < place_count back) (λ value. reached front (entry layer place value)) (range_with_len 0 (length layer.columns.items))
    (λ value. reached_within front back h.1 (entry layer place value) (entry_within layer (front ++ back) h place value))

map-flat_map : {A B C : Type 0} (f : B → C) (g : A → List B) (xs : List A) → map f (flat_map g xs) ≡ flat_map (λ x. map f (g x)) xs
map-flat_map f g [] = refl
map-flat_map f g (x ∷ xs) = map-append f (g x) (flat_map g xs) ∙ ap (λ l. map f (g x) ++ l) (map-flat_map f g xs)

map-twice : {A B C : Type 0} (f : B → C) (g : A → B) (xs : List A) → map f (map g xs) ≡ map (λ x. f (g x)) xs
map-twice f g [] = refl
map-twice f g (x ∷ xs) = ap (λ l. f (g x) ∷ l) (map-twice f g xs)

-- the words of a place, in order
abbrev pub words_of : List Layer → ℕ → List (List ℕ)
words_of layers place = filter (accepts layers place) (all_words (domains layers))

-- the rests of a place's words are the words of the places that are reached
rests_are : (front back : List Layer) (place : ℕ) → map (rest (accepts (front ++ back) place) (domains back)) (all_words (domains front)) ≡ map (words_of back) (reached front place)
rests_are [] back place = refl
rests_are (layer ∷ front) back place =
    let begin : ℕ → List (List ℕ) = λ value. map (λ word. value ∷ word) (all_words (domains front)) in
    let rests : List ℕ → List (List ℕ) = rest (accepts (layer ∷ front ++ back) place) (domains back) in
    let values = range_with_len 0 (length layer.columns.items) in
    let each : (value : ℕ) → map rests (begin value) ≡ map (words_of back) (reached front (entry layer place value)) = λ value.
    map-twice rests (λ word. value ∷ word) (all_words (domains front)) ∙ rests_are front back (entry layer place value) in
    map-flat_map rests begin values ∙ (λ i. flat_map (λ value. each value i) values) ∙ sym (map-flat_map (words_of back) (λ value. reached front (entry layer place value)) values)

none_kept : (p : List ℕ → Bool) → ((word : List ℕ) → p word ≡ false) → (words : List (List ℕ)) → filter p words ≡ []
none_kept p none [] = refl
none_kept p none (word ∷ words) = rw (none word) (none_kept p none words)

no_words : (layers : List Layer) → IsLayered layers → words_of layers 0 ≡ []
no_words layers h = none_kept (accepts layers 0) (empty_place layers h) (all_words (domains layers))

layered_back : (front back : List Layer) → IsLayered (front ++ back) → IsLayered back
layered_back [] back h = h
layered_back (layer ∷ front) back h = layered_back front back h.1

-- as many different non-empty rests at most as places of a layer but the one without words
rests_most : (front back : List Layer) → IsLayered (front ++ back) → (place : ℕ) → place < place_count (front ++ back) → rest_count (accepts (front ++ back) place) (domains front) (domains back) ≤ place_count back - 1
rests_most front back h place lt =
    let hb = layered_back front back h in
    subst (λ l. distinct_count same (filter has_words l) ≤ place_count back - 1) (sym (rests_are front back place))
    (distinct_most (words_of back) (place_count back - 1) (no_words back hb) (reached front place) (at_most (place_count back) (two_places back hb) (reached front place) (reached_within front back h place lt)))

domains_take : (count : ℕ) (layers : List Layer) → take count (domains layers) ≡ domains (take count layers)
domains_take zero layers = refl
domains_take (suc count) [] = refl
domains_take (suc count) (layer ∷ layers) = ap (λ l. length layer.columns.items ∷ l) (domains_take count layers)

pub domains_drop : (count : ℕ) (layers : List Layer) → drop count (domains layers) ≡ domains (drop count layers)
domains_drop zero layers = refl
domains_drop (suc count) [] = refl
domains_drop (suc count) (layer ∷ layers) = domains_drop count layers

-- the number of rests after beginnings of one length
abbrev rests_at : List Layer → ℕ → ℕ → ℕ
rests_at layers place count = rest_count (accepts layers place) (take count (domains layers)) (drop count (domains layers))

rests_at_most : (layers : List Layer) → IsLayered layers → (place : ℕ) → place < place_count layers → (count : ℕ) → rests_at layers place count ≤ place_count (drop count layers) - 1
rests_at_most layers h place lt count =
    let whole : take count layers ++ drop count layers ≡ layers = take-append-drop count layers in
    let split : rest_count (accepts (take count layers ++ drop count layers) place) (domains (take count layers)) (domains (drop count layers)) ≤ place_count (drop count layers) - 1 =
    rests_most (take count layers) (drop count layers) (subst IsLayered (sym whole) h) place (subst (λ ls. place < place_count ls) (sym whole) lt) in
    let again : rest_count (accepts layers place) (domains (take count layers)) (domains (drop count layers)) ≤ place_count (drop count layers) - 1 =
    subst (λ ls. rest_count (accepts ls place) (domains (take count layers)) (domains (drop count layers)) ≤ place_count (drop count layers) - 1) whole split in
    subst (λ d. rest_count (accepts layers place) d (drop count (domains layers)) ≤ place_count (drop count layers) - 1) (sym (domains_take count layers))
    (subst (λ d. rest_count (accepts layers place) (domains (take count layers)) d ≤ place_count (drop count layers) - 1) (sym (domains_drop count layers)) again)

bound_drop : (layers : List Layer) (count : ℕ) → count < length layers → bound (drop count layers) ≡ (place_count (drop count layers) - 1) + bound (drop (count + 1) layers)
bound_drop [] count lt = absurd (omega arith)
bound_drop (layer ∷ layers) zero lt = refl
bound_drop (layer ∷ layers) (suc count) lt = bound_drop layers count (omega arith) ∙ ap (λ n. (place_count (drop count layers) - 1) + bound (drop n (layer ∷ layers))) (let one : suc (count + 1) ≡ suc count + 1 = omega arith in one)

bound_end : (layers : List Layer) (count : ℕ) → length layers ≤ count → (bound (drop count layers) ≡ 1) × (place_count (drop count layers) ≡ 2)
bound_end [] zero le = (refl, refl)
bound_end [] (suc count) le = (refl, refl)
bound_end (layer ∷ layers) zero le = absurd (omega arith)
bound_end (layer ∷ layers) (suc count) le = bound_end layers count (omega arith)

first_rests : (layers : List Layer) → IsLayered layers → (place : ℕ) → place < place_count layers → (count : ℕ) → count ≤ length layers → sum (map (rests_at layers place) (range_with_len 0 count)) + bound (drop count layers) ≤ bound layers
first_rests layers h place lt zero le = omega arith
first_rests layers h place lt (suc count) le =
    let before = first_rests layers h place lt count (omega arith) in
    let more : sum (map (rests_at layers place) (range_with_len 0 (count + 1))) ≡ sum (map (rests_at layers place) (range_with_len 0 count)) + rests_at layers place count = sum_by-map-range_with_len_more (λ x. x) (rests_at layers place) 0 count count (zero-add count) in
    let most = rests_at_most layers h place lt count in
    let split = bound_drop layers count (omega arith) in
    let next : sum (map (rests_at layers place) (range_with_len 0 (count + 1))) + bound (drop (count + 1) layers) ≤ bound layers = omega arith in
    subst (λ n. sum (map (rests_at layers place) (range_with_len 0 n)) + bound (drop n layers) ≤ bound layers) (let one : count + 1 ≡ suc count = omega arith in one) next

-- the size of a place's set is at most the number of places with words
pub size_most : (layers : List Layer) → IsLayered layers → (place : ℕ) → place < place_count layers → size (domains layers) (accepts layers place) ≤ bound layers
size_most layers h place lt =
    let n = length layers in
    let before = first_rests layers h place lt n (omega arith) in
    let more : sum (map (rests_at layers place) (range_with_len 0 (n + 1))) ≡ sum (map (rests_at layers place) (range_with_len 0 n)) + rests_at layers place n = sum_by-map-range_with_len_more (λ x. x) (rests_at layers place) 0 n n (zero-add n) in
    let most = rests_at_most layers h place lt n in
    let end = bound_end layers n (omega arith) in
    let whole : sum (map (rests_at layers place) (range_with_len 0 (n + 1))) ≤ bound layers = omega (arith, end.0, end.1) in
    subst (λ k. sum (map (rests_at layers place) (range_with_len 0 (k + 1))) ≤ bound layers) (sym (length-map layers (λ (layer : Layer). length layer.columns.items))) whole

-- one layer more on top
pub bound_push : (layers : List Layer) (layer : Layer) → bound (reverse (layers ++ layer ∷ [])) ≡ (layer.count - 1) + bound (reverse layers)
bound_push layers layer = ap bound (reverse_push layers layer)

two_at : (layers : List Layer) → IsLayered layers → (place : ℕ) (d : Layer) → place < length layers → 1 < (get_or layers place d).count
two_at [] h place d lt = absurd (omega arith)
two_at (layer ∷ layers) h zero d lt = h.0.two
two_at (layer ∷ layers) h (suc place) d lt = two_at layers h.1 place d (omega arith)

-- the same where the last layer stands first
pub two_from_last : (layers : List Layer) → IsLayered (reverse layers) → (place : ℕ) (d : Layer) → place < length layers → 1 < (get_or layers place d).count
two_from_last layers h place d lt =
    let long = length-reverse layers in
    let turned : get_or (reverse (reverse layers)) place d ≡ get_or (reverse layers) (length (reverse layers) - 1 - place) d = get_or-reverse (reverse layers) place d (omega arith) in
    let two : 1 < (get_or (reverse layers) (length (reverse layers) - 1 - place) d).count = two_at (reverse layers) h (length (reverse layers) - 1 - place) d (omega arith) in
    subst (λ (layer : Layer). 1 < layer.count) (sym turned ∙ ap (λ ls. get_or ls place d) (reverse-reverse layers)) two

-- one layer more is counted
pub bound_more : (layers : List Layer) (place : ℕ) (layer : Layer) → place < length layers → layer ≡ get_or layers place layer → bound (reverse (take (place + 1) layers)) ≡ bound (reverse (take place layers)) + (layer.count - 1)
bound_more layers place layer lt read =
    let more : take (place + 1) layers ≡ take place layers ++ layer ∷ [] = take_more layers place layer lt ∙ ap (λ l. take place layers ++ l ∷ []) (sym read) in
    let pushed : bound (reverse (take (place + 1) layers)) ≡ (layer.count - 1) + bound (reverse (take place layers)) = ap (λ ls. bound (reverse ls)) more ∙ bound_push (take place layers) layer in
    omega arith
