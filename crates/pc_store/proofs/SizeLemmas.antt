-- The nodes that are reached from a node, and the rests of its set.
use Rattle.std.proofs.Common.{◌≡◌, ℕ, zero, suc, ◌+◌, ◌<◌, ◌==◌, nat_eq, Bool, true, false, not, ◌&&◌, ◌||◌, List, [], ◌∷◌, ◌++◌, map, filter, length, get_or, take, drop, cond, All, sum, refl, sym, ap, ◌∙◌, subst, arith, zero-add, replicate, slice_get, Some}
use Rattle.std.specs.Cmp.Lexicographic.{pointwise, lists_equiv}
use Rattle.std.specs.List.{list_any, IsDistinct, AllByRecursion, flat_map, range_with_len}
use Rattle.std.specs.Set.{distinct_count}
use Rattle.std.proofs.lemmas.Bool.Decides.{nat_tests}
use Rattle.std.proofs.lemmas.Cmp.{nat_list_eq_equiv}
use Rattle.std.proofs.lemmas.List.{append-nil, map-append, length-map, ext_get_or, take-append-drop, take_more}
use Rattle.std.proofs.lemmas.List.Folds.{flat_map-map, list_any-append}
use Rattle.std.proofs.lemmas.List.FromFn.{get_or-map-range_with_len, length-map-range_with_len, sum_by-map-range_with_len_more}
use Rattle.std.proofs.lemmas.List.Elements.{recursion_from_All}
use Rattle.std.proofs.lemmas.Option.{get_or_from_slice_get}
use Rattle.std.proofs.lemmas.Slice.Eq.{slice_eq-Decides, bytes_eq-Decides}
use Rattle.std.proofs.lemmas.Map.Made.{length-from_keys}
use Rattle.std.proofs.lemmas.Grind.{flat_map-append}
use Rattle.pc_diagram.specs.Words.{is_word, all_words}
use Rattle.pc_diagram.specs.Rests.{rest, has_words, rest_count, size}
use Rattle.pc_diagram.proofs.WordLemmas.{kept_words-is}
use Rattle.pc_store.specs.declared.layer.Layer.{Layer}
use Rattle.pc_store.specs.Each.{NamesEach}
use Rattle.pc_store.specs.Layered.{row_of, node_count, accepts, IsLayered}
use Rattle.pc_store.proofs.SetLemmas.{layered_drop, domains_drop, StandsAt, stands_at}
use Rattle.pc_store.proofs.EachLemmas.{any_each, named_hold, named_not_zero}
use Rattle.pc_store.proofs.LayerLemmas.{two_nodes, empty_node, accepts_words, same_words, child_within, row_is}

abbrev pub domains : List Layer → List ℕ
domains layers = map (λ layer. layer.domain) layers

-- the nodes below these layers that are reached from a node of the first, one for each word over them
abbrev pub reached : List Layer → ℕ → List ℕ
reached [] node = node ∷ []
reached (layer ∷ layers) node = flat_map (reached layers) (row_of layer node)

flat_map-flat_map : {A B C : Type 0} (f : B → List C) (g : A → List B) (xs : List A) → flat_map f (flat_map g xs) ≡ flat_map (λ x. flat_map f (g x)) xs
flat_map-flat_map f g [] = refl
flat_map-flat_map f g (x ∷ xs) = flat_map-append f (g x) (flat_map g xs) ∙ ap (λ l. flat_map f (g x) ++ l) (flat_map-flat_map f g xs)

map-flat_map : {A B C : Type 0} (f : B → C) (g : A → List B) (xs : List A) → map f (flat_map g xs) ≡ flat_map (λ x. map f (g x)) xs
map-flat_map f g [] = refl
map-flat_map f g (x ∷ xs) = map-append f (g x) (flat_map g xs) ∙ ap (λ l. map f (g x) ++ l) (map-flat_map f g xs)

map-twice : {A B C : Type 0} (f : B → C) (g : A → B) (xs : List A) → map f (map g xs) ≡ map (λ x. f (g x)) xs
map-twice f g [] = refl
map-twice f g (x ∷ xs) = ap (λ l. f (g x) ∷ l) (map-twice f g xs)

-- one layer more
pub reached_more : (layers : List Layer) (layer : Layer) (node : ℕ) → reached (layers ++ layer ∷ []) node ≡ flat_map (row_of layer) (reached layers node)
reached_more [] layer node = single (row_of layer node) ∙ sym (append-nil (row_of layer node))
  where
    single : (xs : List ℕ) → flat_map (λ x. x ∷ []) xs ≡ xs
    single [] = refl
    single (x ∷ xs) = ap (λ l. x ∷ l) (single xs)
reached_more (first ∷ layers) layer node =
    (λ i. flat_map (λ child. reached_more layers layer child i) (row_of first node)) ∙ sym (flat_map-flat_map (row_of layer) (reached layers) (row_of first node))

all_append : {X : Type 0} (P : X → Type 0) (xs ys : List X) → AllByRecursion P xs → AllByRecursion P ys → AllByRecursion P (xs ++ ys)
all_append P [] ys a b = b
all_append P (x ∷ xs) ys a b = (a.0, all_append P xs ys a.1 b)

all_flat_map : {X Y : Type 0} (P : Y → Type 0) (Q : X → Type 0) (f : X → List Y) (xs : List X) → AllByRecursion Q xs → ((x : X) → Q x → AllByRecursion P (f x)) → AllByRecursion P (flat_map f xs)
all_flat_map P Q f [] all each = tt
all_flat_map P Q f (x ∷ xs) all each = all_append P (f x) (flat_map f xs) (each x all.0) (all_flat_map P Q f xs all.1 each)

children_within : (below : ℕ) (row : List ℕ) → All (λ child. child < below) row → AllByRecursion (λ child. child < below) row
children_within below row all = recursion_from_All (λ child. child < below) row all

-- those that are reached are nodes
pub reached_within : (front back : List Layer) → IsLayered (front ++ back) → (node : ℕ) → node < node_count (front ++ back) → AllByRecursion (λ n. n < node_count back) (reached front node)
reached_within [] back h node lt = (lt, tt)
reached_within (layer ∷ front) back h node lt =
    let row = row_is (node_count (front ++ back)) layer h.0 node lt in
    all_flat_map (λ n. n < node_count back) (λ child. child < node_count (front ++ back)) (reached front) (row_of layer node)
    (children_within (node_count (front ++ back)) (row_of layer node) row.within) (λ child within. reached_within front back h.1 child within)

-- the words of a node, in order
abbrev pub words_of : List Layer → ℕ → List (List ℕ)
words_of layers node = filter (accepts layers node) (all_words (domains layers))

row_by_value : (row : List ℕ) (count : ℕ) → length row ≡ count → map (λ value. get_or row value 0) (range_with_len 0 count) ≡ row
row_by_value row count width =
    ext_get_or 0 (map (λ value. get_or row value 0) (range_with_len 0 count)) row (length-map-range_with_len (λ value. get_or row value 0) 0 count ∙ sym width) (λ i lt.
    get_or-map-range_with_len (λ value. get_or row value 0) 0 count i i 0 (omega (arith, length-map-range_with_len (λ value. get_or row value 0) 0 count)) (omega arith))

-- the rests of a set are the words of the nodes that are reached
pub rests_are : (front back : List Layer) → IsLayered (front ++ back) → (node : ℕ) → node < node_count (front ++ back) →
    map (rest (accepts (front ++ back) node) (domains back)) (all_words (domains front)) ≡ map (words_of back) (reached front node)
rests_are [] back h node lt = refl
rests_are (layer ∷ front) back h node lt =
    let row = row_of layer node in
    let width = (row_is (node_count (front ++ back)) layer h.0 node lt).width in
    let begin : ℕ → List (List ℕ) = λ value. map (λ word. value ∷ word) (all_words (domains front)) in
    let rests : List ℕ → List (List ℕ) = rest (accepts (layer ∷ front ++ back) node) (domains back) in
    let values = range_with_len 0 layer.domain in
    let each : (value : ℕ) → map rests (begin value) ≡ map (words_of back) (reached front (get_or row value 0)) = λ value.
    map-twice rests (λ word. value ∷ word) (all_words (domains front))
    ∙ rests_are front back h.1 (get_or row value 0) (child_within layer (front ++ back) h node value lt) in
    map-flat_map rests begin values ∙ (λ i. flat_map (λ value. each value i) values)
    ∙ sym (map-flat_map (words_of back) (λ value. reached front (get_or row value 0)) values)
    ∙ ap (map (words_of back)) (sym (flat_map-map (reached front) (λ value. get_or row value 0) values) ∙ ap (flat_map (reached front)) (row_by_value row layer.domain width))

and_true : (a b : Bool) → (a ≡ true → b ≡ true) → (a && b) ≡ a
and_true true b f = f refl
and_true false b f = refl

-- the list of a node's words tells them
words_tell : (layers : List Layer) → IsLayered layers → (node : ℕ) → node < node_count layers → (word : List ℕ) → list_any (pointwise nat_eq word) (words_of layers node) ≡ accepts layers node word
words_tell layers h node lt word =
    kept_words-is (accepts layers node) (domains layers) word ∙ and_true (accepts layers node word) (is_word (domains layers) word) (accepts_words layers h node lt word)

-- nodes whose words are listed alike are one
pub same_list : (layers : List Layer) → IsLayered layers → (a b : ℕ) → a < node_count layers → b < node_count layers → words_of layers a ≡ words_of layers b → a ≡ b
same_list layers h a b la lb e =
    same_words layers h a b la lb (λ word. sym (words_tell layers h a la word) ∙ ap (list_any (pointwise nat_eq word)) e ∙ words_tell layers h b lb word)

none_kept : (p : List ℕ → Bool) → ((word : List ℕ) → p word ≡ false) → (words : List (List ℕ)) → filter p words ≡ []
none_kept p none [] = refl
none_kept p none (word ∷ words) = rw (none word) (none_kept p none words)

pub no_words : (layers : List Layer) → IsLayered layers → words_of layers 0 ≡ []
no_words layers h = none_kept (accepts layers 0) (empty_node layers h) (all_words (domains layers))

-- a node other than 0 has a word
pub some_words : (layers : List Layer) → IsLayered layers → (node : ℕ) → node < node_count layers → (node == 0) ≡ false → has_words (words_of layers node) ≡ true
some_words layers h node lt other = by (words_of layers node) refl
  where
    by : (words : List (List ℕ)) → words_of layers node ≡ words → has_words words ≡ true
    by [] none =
        let two = two_nodes layers h in
        let zero_is : node ≡ 0 = same_list layers h node 0 lt (omega arith) (none ∙ sym (no_words layers h)) in
        absurd (grind (arith, nat_tests))
    by (word ∷ words) some = grind (arith, nat_tests)

-- equality of lists of words
abbrev same : List (List ℕ) → List (List ℕ) → Bool
same = pointwise (pointwise nat_eq)

same_is : (xs ys : List (List ℕ)) → same xs ys ≡ true → xs ≡ ys
same_is xs ys e = (slice_eq-Decides bytes_eq-Decides xs ys (same xs ys) refl).0 e

differ : (layers : List Layer) → IsLayered layers → (a b : ℕ) → a < node_count layers → b < node_count layers → nat_eq a b ≡ false → same (words_of layers a) (words_of layers b) ≡ false
differ layers h a b la lb apart = by (same (words_of layers a) (words_of layers b)) refl
  where
    by : (r : Bool) → same (words_of layers a) (words_of layers b) ≡ r → same (words_of layers a) (words_of layers b) ≡ false
    by true e = let one = same_list layers h a b la lb (same_is (words_of layers a) (words_of layers b) e) in absurd (grind (arith, nat_tests))
    by false e = e

apart_map : (layers : List Layer) → IsLayered layers → (x : ℕ) → x < node_count layers → (kept : List ℕ) → AllByRecursion (λ n. n < node_count layers) kept → AllByRecursion (λ y. nat_eq x y ≡ false) kept → AllByRecursion (λ y. same (words_of layers x) y ≡ false) (map (words_of layers) kept)
apart_map layers h x lx [] all apart = tt
apart_map layers h x lx (y ∷ kept) all apart = (differ layers h x y lx all.0 apart.0, apart_map layers h x lx kept all.1 apart.1)

distinct_map : (layers : List Layer) → IsLayered layers → (kept : List ℕ) → AllByRecursion (λ n. n < node_count layers) kept → IsDistinct nat_eq kept → IsDistinct same (map (words_of layers) kept)
unfolding IsDistinct
distinct_map layers h [] all d = tt
distinct_map layers h (x ∷ kept) all d = (apart_map layers h x all.0 kept all.1 d.0, distinct_map layers h kept all.1 d.1)

any-map : {X Y : Type 0} (p : Y → Bool) (f : X → Y) (xs : List X) → list_any p (map f xs) ≡ list_any (λ x. p (f x)) xs
any-map p f [] = refl
any-map p f (x ∷ xs) = ap (λ b. p (f x) || b) (any-map p f xs)

any-filter_map : {X Y : Type 0} (p q : Y → Bool) (f : X → Y) (xs : List X) → list_any p (filter q (map f xs)) ≡ list_any (λ x. q (f x) && p (f x)) xs
any-filter_map p q f [] = refl
any-filter_map {X} {Y} p q f (x ∷ xs) = by (q (f x)) ∙ ap (λ b. (q (f x) && p (f x)) || b) (any-filter_map p q f xs)
  where
    by : (b : Bool) → list_any p (cond b (f x ∷ filter q (map f xs)) (filter q (map f xs))) ≡ ((b && p (f x)) || list_any p (filter q (map f xs)))
    by true = refl
    by false = refl

any_same : (p q : ℕ → Bool) (xs : List ℕ) → AllByRecursion (λ x. p x ≡ q x) xs → list_any p xs ≡ list_any q xs
any_same p q [] all = refl
any_same p q (x ∷ xs) all = λ i. all.0 i || any_same p q xs all.1 i

-- as many different non-empty rests as nodes are named
pub count_split : (front back : List Layer) → IsLayered (front ++ back) → IsLayered back → (node : ℕ) → node < node_count (front ++ back) → (kept : List ℕ) → NamesEach (reached front node) kept →
    rest_count (accepts (front ++ back) node) (domains front) (domains back) ≡ length kept
count_split front back h hb node lt kept names =
    ap (λ l. distinct_count same (filter has_words l)) (rests_are front back h node lt)
    ∙ sym (sym (length-map kept (words_of back)) ∙ length-from_keys (lists_equiv nat_list_eq_equiv) (map (words_of back) kept) (filter has_words (map (words_of back) (reached front node))) (distinct_map back hb kept within names.once) members)
  where
    numbers_within : AllByRecursion (λ n. n < node_count back) (reached front node)
    numbers_within = reached_within front back h node lt

    within : AllByRecursion (λ n. n < node_count back) kept
    within = recursion_from_All (λ n. n < node_count back) kept (named_hold (λ n. n < node_count back) (reached front node) kept names numbers_within)

    tested : (q : List (List ℕ)) → ℕ → Bool
    tested q n = has_words (words_of back n) && same q (words_of back n)

    fails : (q : List (List ℕ)) → tested q 0 ≡ false
    fails q = ap (λ words. has_words words && same q words) (no_words back hb)

    kept_passes : (q : List (List ℕ)) → AllByRecursion (λ n. same q (words_of back n) ≡ tested q n) kept
    kept_passes q = recursion_from_All (λ n. same q (words_of back n) ≡ tested q n) kept (λ i d l.
        let n = get_or kept i d in
        let some = some_words back hb n (named_hold (λ n. n < node_count back) (reached front node) kept names numbers_within i d l) (named_not_zero (reached front node) kept names i d l) in
        sym (ap (λ b. b && same q (words_of back n)) some))

    members : (q : List (List ℕ)) → list_any (same q) (map (words_of back) kept) ≡ list_any (same q) (filter has_words (map (words_of back) (reached front node)))
    members q =
        any-map (same q) (words_of back) kept ∙ any_same (λ n. same q (words_of back n)) (tested q) kept (kept_passes q) ∙ any_each (reached front node) kept names (tested q) (fails q)
        ∙ sym (any-filter_map (same q) has_words (words_of back) (reached front node))

pub domains_take : (count : ℕ) (layers : List Layer) → take count (domains layers) ≡ domains (take count layers)
domains_take zero layers = refl
domains_take (suc count) [] = refl
domains_take (suc count) (layer ∷ layers) = ap (λ l. layer.domain ∷ l) (domains_take count layers)

-- the same by the place of the layer
pub count_at : (layers : List Layer) → IsLayered layers → (node : ℕ) → node < node_count layers → (count : ℕ) (kept : List ℕ) → NamesEach (reached (take count layers) node) kept →
    rest_count (accepts layers node) (take count (domains layers)) (drop count (domains layers)) ≡ length kept
count_at layers h node lt count kept names =
    let whole : take count layers ++ drop count layers ≡ layers = take-append-drop count layers in
    let same_domains : rest_count (accepts layers node) (take count (domains layers)) (drop count (domains layers)) ≡ rest_count (accepts layers node) (domains (take count layers)) (domains (drop count layers)) =
    (λ i. rest_count (accepts layers node) (domains_take count layers i) (domains_drop count layers i)) in
    same_domains
    ∙ ap (λ ls. rest_count (accepts ls node) (domains (take count layers)) (domains (drop count layers))) (sym whole)
    ∙ count_split (take count layers) (drop count layers) (subst IsLayered (sym whole) h) (layered_drop count layers h) node (subst (λ ls. node < node_count ls) (sym whole) lt) kept names

and_any : (b : Bool) (p : ℕ → Bool) (xs : List ℕ) → (b && list_any p xs) ≡ list_any (λ x. b && p x) xs
and_any true p xs = refl
and_any false p [] = refl
and_any false p (x ∷ xs) = and_any false p xs

any-flat_map : (p : ℕ → Bool) (f : ℕ → List ℕ) (xs : List ℕ) → list_any p (flat_map f xs) ≡ list_any (λ x. list_any p (f x)) xs
any-flat_map p f [] = refl
any-flat_map p f (x ∷ xs) = list_any-append p (f x) (flat_map f xs) ∙ ap (λ b. list_any p (f x) || b) (any-flat_map p f xs)

only_zeros : (q count : ℕ) → (not (q == 0) && list_any (nat_eq q) (replicate count 0)) ≡ false
only_zeros q zero = by (not (q == 0))
  where
    by : (b : Bool) → (b && false) ≡ false
    by true = refl
    by false = refl
only_zeros zero (suc count) = grind (arith, nat_tests)
only_zeros (suc n) (suc count) = ap (λ b. not (suc n == 0) && (b || list_any (nat_eq (suc n)) (replicate count 0))) apart ∙ only_zeros (suc n) count
  where
    apart : nat_eq (suc n) 0 ≡ false
    apart = grind (arith, nat_tests)

-- the children of the nodes named are those of all the nodes
each_again : (layer : Layer) → slice_get layer.table 0 ≡ Some (replicate layer.domain 0) → (numbers kept next : List ℕ) → NamesEach numbers kept → NamesEach (flat_map (row_of layer) kept) next → NamesEach (flat_map (row_of layer) numbers) next
each_again layer empty numbers kept next names more = record {
  once = more.once;
  each = λ q. more.each q ∙ turn q kept ∙ any_each numbers kept names (tested q) (fails q) ∙ sym (turn q numbers);
}
  where
    tested : ℕ → ℕ → Bool
    tested q n = not (q == 0) && list_any (nat_eq q) (row_of layer n)

    turn : (q : ℕ) (xs : List ℕ) → (not (q == 0) && list_any (nat_eq q) (flat_map (row_of layer) xs)) ≡ list_any (tested q) xs
    turn q xs = ap (λ b. not (q == 0) && b) (any-flat_map (nat_eq q) (row_of layer) xs) ∙ and_any (not (q == 0)) (λ n. list_any (nat_eq q) (row_of layer n)) xs

    fails : (q : ℕ) → tested q 0 ≡ false
    fails q = ap (λ row. not (q == 0) && list_any (nat_eq q) row) (get_or_from_slice_get layer.table 0 (replicate layer.domain 0) [] empty) ∙ only_zeros q layer.domain

-- the number of rests after beginnings of one length
abbrev pub rests_at : List Layer → ℕ → ℕ → ℕ
rests_at layers node count = rest_count (accepts layers node) (take count (domains layers)) (drop count (domains layers))

-- how far the size has been counted
pub record Counted (layers : List Layer) (node place : ℕ) (kept : List ℕ) (total : ℕ) : Type 0 where
  pub names : NamesEach (reached (take place layers) node) kept
  pub total_is : total ≡ sum (map (rests_at layers node) (range_with_len 0 (place + 1)))

pub counted_first : (layers : List Layer) → IsLayered layers → (node : ℕ) → node < node_count layers → (kept : List ℕ) (total : ℕ) → NamesEach (node ∷ []) kept → total ≡ length kept → Counted layers node 0 kept total
counted_first layers h node lt kept total names is = record {
  names = names;
  total_is = is ∙ sym (count_at layers h node lt 0 kept names) ∙ sym (zero-add (rests_at layers node 0));
}

pub counted_more : (layers : List Layer) → IsLayered layers → (node : ℕ) → node < node_count layers → (place : ℕ) (layer : Layer) → place < length layers → layer ≡ get_or layers place layer → (kept next : List ℕ) (total more : ℕ) →
    Counted layers node place kept total → NamesEach (flat_map (row_of layer) kept) next → more ≡ total + length next → Counted layers node (place + 1) next more
counted_more layers h node lt place layer inside read kept next total more so_far names sum_is = record {
  names = next_names;
  total_is = sum_is ∙ ap (λ t. t + length next) so_far.total_is ∙ ap (λ n. sum (map (rests_at layers node) (range_with_len 0 (place + 1))) + n) (sym (count_at layers h node lt (place + 1) next next_names))
      ∙ sym (sum_by-map-range_with_len_more (λ x. x) (rests_at layers node) 0 (place + 1) (place + 1) (zero-add (place + 1)));
}
  where
    stands : StandsAt layers place layer
    stands = subst (StandsAt layers place) (sym read) (stands_at layers place layer h inside)

    more_layers : take (place + 1) layers ≡ take place layers ++ layer ∷ []
    more_layers = take_more layers place layer inside ∙ ap (λ l. take place layers ++ l ∷ []) (sym read)

    next_names : NamesEach (reached (take (place + 1) layers) node) next
    next_names =
        subst (λ numbers. NamesEach numbers next) (sym (ap (λ ls. reached ls node) more_layers ∙ reached_more (take place layers) layer node))
        (each_again layer stands.is_layer.empty (reached (take place layers) node) kept next so_far.names names)

-- the nodes named are nodes of the next layer
pub counted_within : (layers : List Layer) → IsLayered layers → (node : ℕ) → node < node_count layers → (place : ℕ) (layer : Layer) → place < length layers → layer ≡ get_or layers place layer → (kept : List ℕ) (total : ℕ) →
    Counted layers node place kept total → All (λ n. n < length layer.table) kept
counted_within layers h node lt place layer inside read kept total so_far =
    let whole : take place layers ++ drop place layers ≡ layers = take-append-drop place layers in
    let within = reached_within (take place layers) (drop place layers) (subst IsLayered (sym whole) h) node (subst (λ ls. node < node_count ls) (sym whole) lt) in
    let stands = subst (StandsAt layers place) (sym read) (stands_at layers place layer h inside) in
    named_hold (λ n. n < length layer.table) (reached (take place layers) node) kept so_far.names
    (subst (λ ls. AllByRecursion (λ n. n < node_count ls) (reached (take place layers) node)) stands.is_first within)

-- all of it
pub counted_all : (layers : List Layer) (node place : ℕ) (kept : List ℕ) (total : ℕ) → place ≡ length layers → Counted layers node place kept total → total ≡ size (domains layers) (accepts layers node)
counted_all layers node place kept total end so_far =
    so_far.total_is ∙ ap (λ n. sum (map (rests_at layers node) (range_with_len 0 (n + 1)))) (end ∙ sym (length-map layers (λ (layer : Layer). layer.domain)))
