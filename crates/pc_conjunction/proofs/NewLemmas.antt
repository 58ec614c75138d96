-- Layers of all words.
use Rattle.std.proofs.Common.{◌≡◌, ℕ, zero, suc, ◌+◌, ◌-◌, ◌<◌, ◌≤◌, nat_lt, Bool, true, false, ◌&&◌, List, [], ◌∷◌, ◌++◌, length, drop, reverse, replicate, get_or, All, refl, sym, ap, ◌∙◌, subst, arith}
use Rattle.std.proofs.lemmas.Bool.Decides.{nat_tests}
use Rattle.std.proofs.lemmas.List.{get_or-replicate, length-replicate, length-map, drop_more}
use Rattle.std.proofs.lemmas.List.Elements.{All-from_recursion}
use Rattle.pc_diagram.specs.Words.{is_word}
use Rattle.pc_store.specs.Layered.{IsDomain}
use Rattle.pc_conjunction.specs.declared.layer.Layer.{Layer}
use Rattle.pc_conjunction.specs.Places.{column, entry, place_count, domains, accepts, IsColumn, IsLayer, IsLayered, IsNewLayer}
use Rattle.pc_conjunction.specs.Conjunctions.{IsConjunction}
use Rattle.pc_conjunction.proofs.PlaceLemmas.{two_places, empty_place, entry_past}
use Rattle.pc_conjunction.proofs.NarrowLemmas.{reverse_push}

-- a new layer for each number of values
abbrev pub AreNew : List ℕ → List Layer → Type 0
AreNew [] [] = Unit {0}
AreNew [] (layer ∷ layers) = ⊥
AreNew (domain ∷ sizes) [] = ⊥
AreNew (domain ∷ sizes) (layer ∷ layers) = IsNewLayer domain layer × AreNew sizes layers

new_column : (below : ℕ) → 1 < below → IsColumn 2 below (0 ∷ 1 ∷ [])
new_column below two = record {
  width = refl;
  empty = refl;
  within = All-from_recursion (λ place. place < below) (0 ∷ 1 ∷ []) (omega arith, (two, tt));
}

new_is_layer : (domain below : ℕ) (layer : Layer) → 1 < below → IsNewLayer domain layer → IsLayer below layer
new_is_layer domain below layer two h = record {
  two = (let c = h.count_is in omega arith);
  columns = λ value d lt.
      let inside : value < domain = (let l : length layer.columns.items ≡ length (replicate {A = List ℕ} domain (0 ∷ 1 ∷ [])) = ap {A = List (List ℕ)} length h.columns_are in let w = length-replicate {A = List ℕ} domain (0 ∷ 1 ∷ []) in omega arith) in
      let is : get_or layer.columns.items value d ≡ 0 ∷ 1 ∷ [] = ap (λ (l : List (List ℕ)). get_or l value d) h.columns_are ∙ get_or-replicate {A = List ℕ} domain value (0 ∷ 1 ∷ []) d inside in
      subst (λ c. IsColumn layer.count below c) (sym is) (subst (λ n. IsColumn n below (0 ∷ 1 ∷ [])) (sym h.count_is) (new_column below two));
}

pub new_layered : (sizes : List ℕ) (layers : List Layer) → AreNew sizes layers → IsLayered layers
new_layered [] [] h = tt
new_layered [] (layer ∷ layers) h = elim h [ ]
new_layered (domain ∷ sizes) [] h = elim h [ ]
new_layered (domain ∷ sizes) (layer ∷ layers) h =
    let rest = new_layered sizes layers h.1 in
    (new_is_layer domain (place_count layers) layer (two_places layers rest) h.0, rest)

pub new_domains : (sizes : List ℕ) (layers : List Layer) → AreNew sizes layers → domains layers ≡ sizes
new_domains [] [] h = refl
new_domains [] (layer ∷ layers) h = elim h [ ]
new_domains (domain ∷ sizes) [] h = elim h [ ]
new_domains (domain ∷ sizes) (layer ∷ layers) h =
    let width : length layer.columns.items ≡ domain = ap {A = List (List ℕ)} length h.0.columns_are ∙ length-replicate {A = List ℕ} domain (0 ∷ 1 ∷ []) in
    λ i. width i ∷ new_domains sizes layers h.1 i

-- place 1 has every word
pub new_words : (sizes : List ℕ) (layers : List Layer) → AreNew sizes layers → (word : List ℕ) → accepts layers 1 word ≡ is_word sizes word
new_words [] [] h [] = refl
new_words [] [] h (value ∷ word) = refl
new_words [] (layer ∷ layers) h word = elim h [ ]
new_words (domain ∷ sizes) [] h word = elim h [ ]
new_words (domain ∷ sizes) (layer ∷ layers) h [] = refl
new_words (domain ∷ sizes) (layer ∷ layers) h (value ∷ word) = by (new_words sizes layers h.1 word) (nat_lt value domain) refl
  where
    width : length layer.columns.items ≡ domain
    width = ap {A = List (List ℕ)} length h.0.columns_are ∙ length-replicate {A = List ℕ} domain (0 ∷ 1 ∷ [])

    by : accepts layers 1 word ≡ is_word sizes word → (b : Bool) → nat_lt value domain ≡ b → accepts layers (entry layer 1 value) word ≡ (b && is_word sizes word)
    by rest true below =
        let lt : value < domain = grind (arith, nat_tests) in
        let is : column layer value ≡ 0 ∷ 1 ∷ [] = ap (λ (l : List (List ℕ)). get_or l value []) h.0.columns_are ∙ get_or-replicate {A = List ℕ} domain value (0 ∷ 1 ∷ []) [] lt in
        ap (λ (c : List ℕ). accepts layers (get_or c 1 0) word) is ∙ rest
    by rest false past =
        let ge : domain ≤ value = grind (arith, nat_tests) in
        let w = width in
        ap (λ n. accepts layers n word) (entry_past layer 1 value (omega arith)) ∙ empty_place layers (new_layered sizes layers h.1) word

-- the layers of the last variables
pub record MadeLast (sizes : List ℕ) (done : ℕ) (layers : List Layer) : Type 0 where
  pub new : AreNew (drop (length sizes - done) sizes) (reverse layers)

pub last_none : (sizes : List ℕ) → MadeLast sizes 0 []
last_none sizes = record { new = subst (λ l. AreNew l []) (sym (past sizes (length sizes - 0) (omega arith))) tt }
  where
    past : (xs : List ℕ) (n : ℕ) → length xs ≤ n → drop n xs ≡ []
    past [] zero le = refl
    past [] (suc n) le = refl
    past (x ∷ xs) zero le = absurd (omega arith)
    past (x ∷ xs) (suc n) le = past xs n (omega arith)

pub last_more : (sizes : List ℕ) (done : ℕ) (layers : List Layer) (layer : Layer) → done < length sizes → MadeLast sizes done layers → IsNewLayer (get_or sizes (length sizes - 1 - done) 0) layer → MadeLast sizes (done + 1) (layers ++ layer ∷ [])
last_more sizes done layers layer lt h new =
    let place = length sizes - 1 - done in
    let before : length sizes - (done + 1) ≡ place = omega arith in
    let after : place + 1 ≡ length sizes - done = omega arith in
    let more : drop place sizes ≡ get_or sizes place 0 ∷ drop (place + 1) sizes = drop_more sizes place 0 (omega arith) in
    let rest : AreNew (drop (place + 1) sizes) (reverse layers) = subst (λ n. AreNew (drop n sizes) (reverse layers)) (sym after) h.new in
    let one : AreNew (get_or sizes place 0 ∷ drop (place + 1) sizes) (layer ∷ reverse layers) = (new, rest) in
    record { new = subst (λ n. AreNew (drop n sizes) (reverse (layers ++ layer ∷ []))) (sym before) (subst (λ l. AreNew l (reverse (layers ++ layer ∷ []))) (sym more) (subst (AreNew (get_or sizes place 0 ∷ drop (place + 1) sizes)) (sym (reverse_push layers layer)) one)) }

pub last_all : (sizes : List ℕ) (done : ℕ) (layers : List Layer) → done ≡ length sizes → MadeLast sizes done layers → AreNew sizes (reverse layers)
last_all sizes done layers end h =
    let all : length sizes - done ≡ 0 = omega arith in
    subst (λ n. AreNew (drop n sizes) (reverse layers)) all h.new

pub new_conjunction : (sizes : List ℕ) (layers : List Layer) → 0 < length sizes → length sizes ≤ 64 → All IsDomain sizes → AreNew sizes layers → IsConjunction layers
new_conjunction sizes layers some few all h =
    let same = new_domains sizes layers h in
    let len : length layers ≡ length sizes = sym (length-map layers (λ (layer : Layer). length layer.columns.items)) ∙ ap length same in
    record {
      some_layer = omega arith;
      few_layers = omega arith;
      sizes = subst (All IsDomain) (sym same) all;
      layered = new_layered sizes layers h;
    }

pub among_words : (a b : Bool) → (b ≡ true → a ≡ true) → (a && b) ≡ b
among_words true b f = refl
among_words false true f = f refl
among_words false false f = refl
