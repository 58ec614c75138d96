-- Columns that grow or are cut, one entry after another.
use Rattle.std.proofs.Common.{◌≡◌, ℕ, ◌+◌, ◌<◌, nat_lt, Bool, true, false, List, [], ◌∷◌, ◌++◌, All, drop, length, get_or, slice_get, Some, refl, sym, ap, ◌∙◌, subst, arith}
use Rattle.std.proofs.lemmas.Bool.Decides.{nat_tests}
use Rattle.std.proofs.lemmas.List.{get_or_append_left, get_or_push, get_or_past, length_push}
use Rattle.std.proofs.lemmas.Option.{slice_get_within}
use Rattle.pc_diagram.specs.Words.{is_word}
use Rattle.pc_store.specs.declared.store.Store.{Store}
use Rattle.pc_store.specs.Sets.{domains_of}
use Rattle.pc_conjunction.specs.declared.layer.Layer.{Layer}
use Rattle.pc_conjunction.specs.declared.pair.Pair.{Pair}
use Rattle.pc_conjunction.specs.Meets.{IsBelow, Meets, MorePairs, in_node, GrownColumn, CutColumn}
use Rattle.pc_conjunction.proofs.MeetLemmas.{meets_later, more_none, more_then}
use Rattle.pc_conjunction.proofs.PlaceLemmas.{accepts_over}
use Rattle.pc_conjunction.proofs.TargetLemmas.{meets_all}

-- a column with the places of the first pairs
pub record Growing (store : Store) (layer count value : ℕ) (pairs : List Pair) (done : ℕ) (first next : List Pair) (old new : List ℕ) : Type 0 where
  pub width : length new ≡ length old + done
  pub kept : (place : ℕ) → place < length old → get_or new place 0 ≡ get_or old place 0
  pub more : MorePairs store (layer + 1) count first next
  pub met : (layers : List Layer) → IsBelow store (layer + 1) count layers → (i : ℕ) (pair : Pair) → i < done → slice_get pairs i ≡ Some pair
      → Meets store (layer + 1) layers next (get_or old pair.place 0) (λ word. in_node store layer pair (value ∷ word)) (get_or new (length old + i) 0)

pub growing_none : (store : Store) (layer count value : ℕ) (pairs next : List Pair) (column : List ℕ) → Growing store layer count value pairs 0 next next column column
growing_none store layer count value pairs next column = record {
  width = omega arith;
  kept = λ place lt. refl;
  more = more_none store (layer + 1) count next;
  met = λ layers below i pair lt at. absurd (omega arith);
}

-- one pair more
pub growing_more : (store : Store) (layer count value : ℕ) (pairs : List Pair) (done : ℕ) (first mid next : List Pair) (old new : List ℕ) (pair : Pair) (target : ℕ) → slice_get pairs done ≡ Some pair → Growing store layer count value pairs done first mid old new → MorePairs store (layer + 1) count mid next →
    ((layers : List Layer) → IsBelow store (layer + 1) count layers → Meets store (layer + 1) layers next (get_or old pair.place 0) (λ word. in_node store layer pair (value ∷ word)) target) → Growing store layer count value pairs (done + 1) first next old (new ++ target ∷ [])
growing_more store layer count value pairs done first mid next old new pair target read h more one = record {
  width = (let w = h.width in let l = length_push new target in omega arith);
  kept = λ place lt. get_or_append_left new (target ∷ []) 0 place (let w = h.width in omega arith) ∙ h.kept place lt;
  more = more_then store (layer + 1) count first mid next h.more more;
  met = λ layers below i p lt at. by layers below i p lt at (nat_lt i done) refl;
}
  where
    by : (layers : List Layer) → IsBelow store (layer + 1) count layers → (i : ℕ) (p : Pair) → i < done + 1 → slice_get pairs i ≡ Some p → (b : Bool) → nat_lt i done ≡ b →
        Meets store (layer + 1) layers next (get_or old p.place 0) (λ word. in_node store layer p (value ∷ word)) (get_or (new ++ target ∷ []) (length old + i) 0)
    by layers below i p lt at true before =
        let inside : i < done = grind (arith, nat_tests) in
        let same : get_or (new ++ target ∷ []) (length old + i) 0 ≡ get_or new (length old + i) 0 = get_or_append_left new (target ∷ []) 0 (length old + i) (let w = h.width in omega arith) in
        subst (Meets store (layer + 1) layers next (get_or old p.place 0) (λ word. in_node store layer p (value ∷ word))) (sym same)
        (meets_later store (layer + 1) count layers mid next (get_or old p.place 0) (λ word. in_node store layer p (value ∷ word)) (get_or new (length old + i) 0) more (h.met layers below i p inside at))
    by layers below i p lt at false last =
        let here : i ≡ done = grind (arith, nat_tests) in
        let same : get_or (new ++ target ∷ []) (length old + i) 0 ≡ target = get_or_push new target 0 (length old + i) (let w = h.width in omega arith) in
        let there : slice_get pairs done ≡ Some p = ap (slice_get pairs) (sym here) ∙ at in
        let one_pair : pair ≡ p = cc (read, there) in
        subst (Meets store (layer + 1) layers next (get_or old p.place 0) (λ word. in_node store layer p (value ∷ word))) (sym same)
        (subst (λ (q : Pair). Meets store (layer + 1) layers next (get_or old q.place 0) (λ word. in_node store layer q (value ∷ word)) target) one_pair (one layers below))

pub growing_all : (store : Store) (layer count value : ℕ) (pairs : List Pair) (done : ℕ) (first next : List Pair) (old new : List ℕ) → done ≡ length pairs → Growing store layer count value pairs done first next old new →
    (layers : List Layer) → IsBelow store (layer + 1) count layers → GrownColumn store layer layers value pairs next old new
growing_all store layer count value pairs done first next old new end h layers below = record {
  width = (let w = h.width in omega arith);
  kept = h.kept;
  met = λ i pair at. h.met layers below i pair (let lt = slice_get_within pairs i pair at in omega arith) at;
}

-- the first entries of a column, cut
pub record Cutting (store : Store) (layer count : ℕ) (test : List ℕ → Bool) (done : ℕ) (first next : List Pair) (old new : List ℕ) : Type 0 where
  pub width : length new ≡ done
  pub empty : 0 < done → get_or old 0 0 ≡ 0 → get_or new 0 0 ≡ 0
  pub more : MorePairs store layer count first next
  pub met : (layers : List Layer) → IsBelow store layer count layers → (place : ℕ) → place < done → Meets store layer layers next (get_or old place 0) test (get_or new place 0)

pub cutting_none : (store : Store) (layer count : ℕ) (test : List ℕ → Bool) (next : List Pair) (old : List ℕ) → Cutting store layer count test 0 next next old []
cutting_none store layer count test next old = record {
  width = refl;
  empty = λ lt. absurd (omega arith);
  more = more_none store layer count next;
  met = λ layers below place lt. absurd (omega arith);
}

-- one entry more
pub cutting_more : (store : Store) (layer count : ℕ) (test : List ℕ → Bool) (done : ℕ) (first mid next : List Pair) (old new : List ℕ) (target : ℕ) → Cutting store layer count test done first mid old new → MorePairs store layer count mid next →
    (get_or old done 0 ≡ 0 → target ≡ 0) → ((layers : List Layer) → IsBelow store layer count layers → Meets store layer layers next (get_or old done 0) test target) → Cutting store layer count test (done + 1) first next old (new ++ target ∷ [])
cutting_more store layer count test done first mid next old new target h more none one = record {
  width = (let w = h.width in let l = length_push new target in omega arith);
  empty = λ lt zero_is. zero_by (nat_lt 0 done) refl zero_is;
  more = more_then store layer count first mid next h.more more;
  met = λ layers below place lt. by layers below place lt (nat_lt place done) refl;
}
  where
    zero_by : (b : Bool) → nat_lt 0 done ≡ b → get_or old 0 0 ≡ 0 → get_or (new ++ target ∷ []) 0 0 ≡ 0
    zero_by true some zero_is =
        let lt : 0 < done = grind (arith, nat_tests) in
        get_or_append_left new (target ∷ []) 0 0 (let w = h.width in omega arith) ∙ h.empty lt zero_is
    zero_by false last zero_is =
        let here : done ≡ 0 = grind (arith, nat_tests) in
        get_or_push new target 0 0 (let w = h.width in omega arith) ∙ none (ap (λ i. get_or old i 0) here ∙ zero_is)

    by : (layers : List Layer) → IsBelow store layer count layers → (place : ℕ) → place < done + 1 → (b : Bool) → nat_lt place done ≡ b → Meets store layer layers next (get_or old place 0) test (get_or (new ++ target ∷ []) place 0)
    by layers below place lt true before =
        let inside : place < done = grind (arith, nat_tests) in
        let same : get_or (new ++ target ∷ []) place 0 ≡ get_or new place 0 = get_or_append_left new (target ∷ []) 0 place (let w = h.width in omega arith) in
        subst (Meets store layer layers next (get_or old place 0) test) (sym same) (meets_later store layer count layers mid next (get_or old place 0) test (get_or new place 0) more (h.met layers below place inside))
    by layers below place lt false last =
        let here : place ≡ done = grind (arith, nat_tests) in
        let same : get_or (new ++ target ∷ []) place 0 ≡ target = get_or_push new target 0 place (let w = h.width in omega arith) in
        subst (Meets store layer layers next (get_or old place 0) test) (sym same) (subst (λ i. Meets store layer layers next (get_or old i 0) test target) (sym here) (one layers below))

pub cutting_all : (store : Store) (layer count : ℕ) (test : List ℕ → Bool) (done : ℕ) (first next : List Pair) (old new : List ℕ) → done ≡ length old → Cutting store layer count test done first next old new →
    (layers : List Layer) → IsBelow store layer count layers → CutColumn store layer layers test next old new
cutting_all store layer count test done first next old new end h layers below = record {
  width = h.width ∙ end;
  empty = λ zero_is. by (nat_lt 0 done) refl zero_is;
  met = λ place lt. h.met layers below place (omega arith);
}
  where
    by : (b : Bool) → nat_lt 0 done ≡ b → get_or old 0 0 ≡ 0 → get_or new 0 0 ≡ 0
    by true some zero_is = h.empty (grind (arith, nat_tests)) zero_is
    by false past zero_is = get_or_past new 0 0 (let w = h.width in grind (arith, nat_tests))

-- a column stays where its places go on in all words
pub cut_by_all : (store : Store) (layer count : ℕ) (test : List ℕ → Bool) (next : List Pair) (column : List ℕ) → ((word : List ℕ) → test word ≡ is_word (drop layer (domains_of store)) word) → All (λ place. place < count) column →
    (layers : List Layer) → IsBelow store layer count layers → CutColumn store layer layers test next column column
cut_by_all store layer count test next column all within layers below = record {
  width = refl;
  empty = λ zero_is. zero_is;
  met = λ place lt.
      meets_all store layer layers next (get_or column place 0) test
      (let one = within place 0 lt in let n = below.count_is in omega arith)
      (λ word there. all word ∙ ap (λ d. is_word d word) (sym below.domains_are) ∙ accepts_over layers below.layered (get_or column place 0) word there);
}
