-- The list of products, as it grows.
use Rattle.std.proofs.Common.{◌≡◌, ℕ, ◌+◌, Bool, true, ◌&&◌, not, List, [], ◌∷◌, ◌++◌, map, filter, refl, sym, ap, ◌∙◌, append_assoc, length, take, ◌-◌, length-append, arith}
use Rattle.std.specs.List.{list_all, flat_map, range_with_len}
use Rattle.std.proofs.lemmas.List.{append-nil, map-append, take_at}
use Rattle.std.proofs.lemmas.List.Elements.{filter-append}
use Rattle.std.proofs.lemmas.Grind.{flat_map-append}
use Rattle.pc_base.proofs.DistinctLemmas.{both_true_parts}
use Rattle.pc_diagram.specs.Words.{all_words}
use Rattle.pc_diagram.proofs.WordLemmas.{range_more}
use Rattle.pc_file.specs.declared.variable.Variable.{Variable}
use Rattle.pc_file.specs.Limits.{Contents, is_reserved, is_value, is_sized, is_variable}
use Rattle.pc_file.specs.Products.{value_counts, obeys, products, products_after}

-- each variable of a file has 1 to 64 values
pub sized : (costs : ℕ) (variables : List Variable) → list_all (is_variable costs) variables ≡ true → list_all is_sized variables ≡ true
sized costs [] h = refl
sized costs (v ∷ vs) h =
    let parts = both_true_parts (is_variable costs v) (list_all (is_variable costs) vs) h in
    let front = both_true_parts (not (is_reserved v.name) && is_sized v) (list_all (is_value costs) v.values) parts.0 in
    let size = both_true_parts (not (is_reserved v.name)) (is_sized v) front.0 in
    rw (size.1, sized costs vs parts.1) refl

-- nothing is left: the word alone
pub after_all : (file : Contents) (word : List ℕ) → products_after file word [] ≡ filter (obeys file) (word ∷ [])
unfolding products_after
after_all file word = ap (λ w. filter (obeys file) (w ∷ [])) (append-nil word)

map_again : (word : List ℕ) (value : ℕ) (rests : List (List ℕ)) → map (λ rest. word ++ rest) (map (λ rest. value ∷ rest) rests) ≡ map (λ rest. (word ++ value ∷ []) ++ rest) rests
map_again word value [] = refl
map_again word value (rest ∷ rests) =
    ap (λ w. w ∷ map (λ rest. word ++ rest) (map (λ rest. value ∷ rest) rests)) (sym (append_assoc word (value ∷ []) rest))
    ∙ ap (λ ws. ((word ++ value ∷ []) ++ rest) ∷ ws) (map_again word value rests)

-- the products that begin with the word and one of the first values, and those with the next value
pub one_more : (p : List ℕ → Bool) (word : List ℕ) (value : ℕ) (rests : List (List ℕ)) →
    filter p (map (λ rest. word ++ rest) (flat_map (λ v. map (λ rest. v ∷ rest) rests) (range_with_len 0 (value + 1))))
    ≡ filter p (map (λ rest. word ++ rest) (flat_map (λ v. map (λ rest. v ∷ rest) rests) (range_with_len 0 value))) ++ filter p (map (λ rest. (word ++ value ∷ []) ++ rest) rests)
one_more p word value rests =
    let begin = λ (v : ℕ). map (λ (rest : List ℕ). v ∷ rest) rests in
    let first = flat_map begin (range_with_len 0 value) in
    let next : flat_map begin (range_with_len 0 (value + 1)) ≡ first ++ map (λ rest. value ∷ rest) rests =
    ap (flat_map begin) (range_more value) ∙ flat_map-append begin (range_with_len 0 value) (value ∷ []) ∙ ap (λ ws. first ++ ws) (append-nil (begin value)) in
    ap (λ ws. filter p (map (λ rest. word ++ rest) ws)) next
    ∙ ap (filter p) (map-append (λ (rest : List ℕ). word ++ rest) first (begin value))
    ∙ filter-append p (map (λ rest. word ++ rest) first) (map (λ rest. word ++ rest) (begin value))
    ∙ ap (λ ws. filter p (map (λ rest. word ++ rest) first) ++ filter p ws) (map_again word value rests)

-- nothing before: the words themselves
pub map_nothing : (words : List (List ℕ)) → map (λ rest. [] ++ rest) words ≡ words
map_nothing [] = refl
map_nothing (w ∷ ws) = ap (λ ys. w ∷ ys) (map_nothing ws)

-- the products that begin with a word and one of the first values of the next variable
unfoldable pub begun : Contents → List ℕ → List ℕ → ℕ → List (List ℕ)
begun file word counts values = filter (obeys file) (map (λ rest. word ++ rest) (flat_map (λ value. map (λ rest. value ∷ rest) (all_words counts)) (range_with_len 0 values)))

pub begun-zero : (file : Contents) (word counts : List ℕ) → begun file word counts 0 ≡ []
unfolding begun
begun-zero file word counts = refl

pub begun_more : (file : Contents) (word counts : List ℕ) (value : ℕ) → begun file word counts (value + 1) ≡ begun file word counts value ++ products_after file (word ++ value ∷ []) counts
unfolding begun products_after
begun_more file word counts value = one_more (obeys file) word value (all_words counts)

pub begun_all : (file : Contents) (word counts : List ℕ) (values : ℕ) → begun file word counts values ≡ products_after file word (values ∷ counts)
unfolding begun products_after
begun_all file word counts values = refl

-- from nothing on, all products
pub from_nothing : (file : Contents) → products_after file [] (value_counts file.variables) ≡ products file
unfolding products_after
from_nothing file = ap (filter (obeys file)) (map_nothing (all_words (value_counts file.variables)))

-- a word with one more value, without it again
pub popped : (word more : List ℕ) (value len : ℕ) → len ≡ length more → more ≡ word ++ value ∷ [] → take (len - 1) more ≡ word
popped word more value len is pushed =
    let longer : length more ≡ length word + 1 = ap length pushed ∙ simp length-append (omega arith) in
    let front : len - 1 ≡ length word = omega arith in
    rw (front, pushed) (take_at word (value ∷ []) (length word) refl)
