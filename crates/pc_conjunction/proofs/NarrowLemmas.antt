-- Layers over layers that changed.
use Rattle.std.proofs.Common.{◌≡◌, ℕ, zero, suc, ◌+◌, ◌-◌, ◌<◌, ◌≤◌, nat_lt, Bool, true, false, ◌&&◌, List, [], ◌∷◌, ◌++◌, length, drop, reverse, get_or, slice_get, Some, refl, sym, ap, ◌∙◌, subst, arith}
use Rattle.std.proofs.lemmas.Bool.Decides.{nat_tests}
use Rattle.std.proofs.lemmas.List.{get_or_past, get_or_default, get_or-drop, reverse-append}
use Rattle.std.proofs.lemmas.Option.{slice_get-get_or}
use Rattle.pc_store.specs.declared.id.Id.{Id}
use Rattle.pc_store.specs.declared.store.Store.{Store}
use Rattle.pc_store.specs.Sets.{domains_of, has}
use Rattle.pc_conjunction.specs.declared.layer.Layer.{Layer}
use Rattle.pc_conjunction.specs.declared.pair.Pair.{Pair}
use Rattle.pc_conjunction.specs.Places.{column, entry, place_count, accepts, IsColumn, IsLayer, IsLayered}
use Rattle.pc_conjunction.specs.Meets.{IsBelow, Extends, in_node, GrownColumn, CutColumn, GrownLayer, CutLayer, IsOnlyChild, Narrows}
use Rattle.pc_conjunction.proofs.PlaceLemmas.{column_is, entry_past, empty_place, entry_within}

-- the layer that is put at the end of a list stands first where the list is turned round
pub reverse_push : (layers : List Layer) (layer : Layer) → reverse (layers ++ layer ∷ []) ≡ layer ∷ reverse layers
reverse_push layers layer = reverse-append layers (layer ∷ [])

-- how many values the variable of the first layer takes
pub first_domain : (store : Store) (layer count : ℕ) (first : Layer) (layers : List Layer) → IsBelow store layer count (first ∷ layers) → length first.columns.items ≡ get_or (domains_of store) layer 0
first_domain store layer count first layers h =
    let at : get_or (drop layer (domains_of store)) 0 0 ≡ get_or (domains_of store) (layer + 0) 0 = get_or-drop layer (domains_of store) 0 0 in
    let same : layer + 0 ≡ layer = omega arith in
    ap (λ l. get_or l 0 0) h.domains_are ∙ at ∙ ap (λ n. get_or (domains_of store) n 0) same

-- the layers after the first
pub rest_below : (store : Store) (layer count : ℕ) (first : Layer) (layers : List Layer) → IsBelow store layer count (first ∷ layers) → IsBelow store (layer + 1) (place_count layers) layers
rest_below store layer count first layers h = record {
  layered = h.layered.1;
  domains_are = ap (drop 1) h.domains_are ∙ drop_again layer (domains_of store);
  count_is = refl;
}
  where
    drop_again : (n : ℕ) (xs : List ℕ) → drop 1 (drop n xs) ≡ drop (n + 1) xs
    drop_again n xs = by n xs ∙ ap (λ k. drop k xs) (let same : suc n ≡ n + 1 = omega arith in same)
      where
        by : (n : ℕ) (xs : List ℕ) → drop 1 (drop n xs) ≡ drop (suc n) xs
        by zero xs = refl
        by (suc n) [] = refl
        by (suc n) (x ∷ xs) = by n xs

module _ (store : Store) (layer : ℕ) (first : Layer) (layers below : List Layer) (next : List Pair) (h : IsLayered (first ∷ layers)) (e : Extends store (layer + 1) layers below next) where
  -- a place that stands past the end of a column
  none_below : accepts below 0 [] ≡ false
  none_below = empty_place below e.layered []

  no_words : (word : List ℕ) → accepts below 0 word ≡ accepts layers 0 word
  no_words word = empty_place below e.layered word ∙ sym (empty_place layers h.1 word)

  old_within : (place value : ℕ) → entry first place value < place_count below
  old_within place value = let lt = entry_within first layers h place value in let c = e.count_is in omega arith

  -- the grown layer over the extended ones
  module _ (grown : Layer) (pairs : List Pair) (g : GrownLayer store layer layers pairs next first grown) where
    grown_column : (value : ℕ) → value < length first.columns.items → IsColumn grown.count (place_count below) (column grown value)
    grown_column value lt = record {
      width = one.width ∙ (let w = old.width in let c = g.count_is in omega arith);
      empty = one.kept 0 (let w = old.width in let t = h.0.two in omega arith) ∙ old.empty;
      within = λ place d inside. subst (λ n. n < place_count below) (get_or_default (column grown value) place 0 d inside) (by place inside (nat_lt place (length (column first value))) refl);
    }
      where
        one : GrownColumn store layer layers value pairs next (column first value) (column grown value)
        one = g.columns value lt

        old : IsColumn first.count (place_count layers) (column first value)
        old = column_is (place_count layers) first h.0 value lt

        by : (place : ℕ) → place < length (column grown value) → (b : Bool) → nat_lt place (length (column first value)) ≡ b → get_or (column grown value) place 0 < place_count below
        by place inside true before = rw (one.kept place (grind (arith, nat_tests))) (old_within place value)
        by place inside false after =
            let ge : length (column first value) ≤ place = grind (arith, nat_tests) in
            let i = place - length (column first value) in
            let w = one.width in
            let lt : i < length pairs = omega arith in
            let none : Pair = record { place = 0; node = record { number = 0 } } in
            let at : slice_get pairs i ≡ Some (get_or pairs i none) = slice_get-get_or pairs i none lt in
            let m = (one.met i (get_or pairs i none) at).within in
            let here : length (column first value) + i ≡ place = omega arith in
            let c = e.count_is in
            subst (λ n. get_or (column grown value) n 0 < place_count below) here (omega arith)

    pub extends_over : Extends store layer (first ∷ layers) (grown ∷ below) pairs
    extends_over = record {
      layered = (
        record {
          two = (let t = h.0.two in let c = g.count_is in omega arith);
          columns = λ value d lt. subst (IsColumn grown.count (place_count below)) (get_or_default grown.columns.items value [] d lt) (grown_column value (let w = g.width in omega arith));
        },
        e.layered,
      );
      domains_are = λ i. g.width i ∷ e.domains_are i;
      count_is = g.count_is;
      places = record { kept = kept; met = met };
    }
      where
        kept : (place : ℕ) → place < first.count → (word : List ℕ) → accepts (grown ∷ below) place word ≡ accepts (first ∷ layers) place word
        kept place lt [] = refl
        kept place lt (value ∷ word) = by (nat_lt value (length first.columns.items)) refl
          where
            by : (b : Bool) → nat_lt value (length first.columns.items) ≡ b → accepts below (entry grown place value) word ≡ accepts layers (entry first place value) word
            by true inside =
                let v : value < length first.columns.items = grind (arith, nat_tests) in
                let w = (column_is (place_count layers) first h.0 value v).width in
                ap (λ n. accepts below n word) ((g.columns value v).kept place (omega arith)) ∙ e.places.kept (entry first place value) (entry_within first layers h place value) word
            by false past =
                let ge : length first.columns.items ≤ value = grind (arith, nat_tests) in
                let w = g.width in
                ap (λ n. accepts below n word) (entry_past grown place value (omega arith)) ∙ no_words word ∙ ap (λ n. accepts layers n word) (sym (entry_past first place value ge))

        met : (i : ℕ) (pair : Pair) → slice_get pairs i ≡ Some pair → (word : List ℕ) → accepts (grown ∷ below) (first.count + i) word ≡ (accepts (first ∷ layers) pair.place word && in_node store layer pair word)
        met i pair at [] = refl
        met i pair at (value ∷ word) = by (nat_lt value (length first.columns.items)) refl
          where
            by : (b : Bool) → nat_lt value (length first.columns.items) ≡ b → accepts below (entry grown (first.count + i) value) word ≡ (accepts layers (entry first pair.place value) word && in_node store layer pair (value ∷ word))
            by true inside =
                let v : value < length first.columns.items = grind (arith, nat_tests) in
                let w = (column_is (place_count layers) first h.0 value v).width in
                ap (λ n. accepts below (get_or (column grown value) (n + i) 0) word) (sym w) ∙ ((g.columns value v).met i pair at).words below e.places word
            by false past =
                let ge : length first.columns.items ≤ value = grind (arith, nat_tests) in
                let w = g.width in
                ap (λ n. accepts below n word) (entry_past grown (first.count + i) value (omega arith)) ∙ empty_place below e.layered word
                ∙ sym (ap (λ n. accepts layers n word && in_node store layer pair (value ∷ word)) (entry_past first pair.place value ge) ∙ ap (λ b. b && in_node store layer pair (value ∷ word)) (empty_place layers h.1 word))

  -- the cut layer over the extended ones
  module _ (cut : Layer) (set : Id) (g : CutLayer store layer layers set next first cut) where
    cut_column : (value : ℕ) → value < length first.columns.items → IsColumn cut.count (place_count below) (column cut value)
    cut_column value lt = record {
      width = one.width ∙ old.width ∙ sym g.count_is;
      empty = one.empty old.empty;
      within = λ place d inside.
          let m = (one.met place (let w = one.width in omega arith)).within in
          let c = e.count_is in
          let lt : get_or (column cut value) place 0 < place_count below = omega arith in
          subst (λ n. n < place_count below) (get_or_default (column cut value) place 0 d inside) lt;
    }
      where
        one : CutColumn store (layer + 1) layers (λ word. has store set (value ∷ word)) next (column first value) (column cut value)
        one = g.columns value lt

        old : IsColumn first.count (place_count layers) (column first value)
        old = column_is (place_count layers) first h.0 value lt

    pub cut_narrows : Narrows store set (first ∷ layers) (cut ∷ below)
    cut_narrows = record {
      layered = (
        record {
          two = (let t = h.0.two in let c = g.count_is in omega arith);
          columns = λ value d lt. subst (IsColumn cut.count (place_count below)) (get_or_default cut.columns.items value [] d lt) (cut_column value (let w = g.width in omega arith));
        },
        e.layered,
      );
      domains_are = λ i. g.width i ∷ e.domains_are i;
      count_is = g.count_is;
      words = words;
    }
      where
        words : (place : ℕ) (word : List ℕ) → accepts (cut ∷ below) place word ≡ (accepts (first ∷ layers) place word && has store set word)
        words place [] = refl
        words place (value ∷ word) = by (nat_lt value (length first.columns.items)) refl
          where
            none : entry cut place value ≡ 0 → entry first place value ≡ 0 → accepts below (entry cut place value) word ≡ (accepts layers (entry first place value) word && has store set (value ∷ word))
            none a b = ap (λ n. accepts below n word) a ∙ empty_place below e.layered word
                ∙ sym (ap (λ n. accepts layers n word && has store set (value ∷ word)) b ∙ ap (λ b. b && has store set (value ∷ word)) (empty_place layers h.1 word))

            here : (v : value < length first.columns.items) → (b : Bool) → nat_lt place (length (column first value)) ≡ b → accepts below (entry cut place value) word ≡ (accepts layers (entry first place value) word && has store set (value ∷ word))
            here v true inside = ((g.columns value v).met place (grind (arith, nat_tests))).words below e.places word
            here v false past =
                let ge : length (column first value) ≤ place = grind (arith, nat_tests) in
                let w = (g.columns value v).width in
                none (get_or_past (column cut value) place 0 (omega arith)) (get_or_past (column first value) place 0 ge)

            by : (b : Bool) → nat_lt value (length first.columns.items) ≡ b → accepts below (entry cut place value) word ≡ (accepts layers (entry first place value) word && has store set (value ∷ word))
            by true inside = here (grind (arith, nat_tests)) (nat_lt place (length (column first value))) refl
            by false past =
                let ge : length first.columns.items ≤ value = grind (arith, nat_tests) in
                let w = g.width in
                none (entry_past cut place value (omega arith)) (entry_past first place value ge)

-- the layer above narrowed ones stays as it is
pub child_narrows : (store : Store) (layer count : ℕ) (first : Layer) (layers below : List Layer) (set child : Id) → IsBelow store layer count (first ∷ layers) → IsOnlyChild store layer set child → Narrows store child layers below → Narrows store set (first ∷ layers) (first ∷ below)
child_narrows store layer count first layers below set child h only n = record {
  layered = (subst (λ count. IsLayer count first) (sym n.count_is) h.layered.0, n.layered);
  domains_are = ap (λ l. length first.columns.items ∷ l) n.domains_are;
  count_is = refl;
  words = words;
}
  where
    words : (place : ℕ) (word : List ℕ) → accepts (first ∷ below) place word ≡ (accepts (first ∷ layers) place word && has store set word)
    words place [] = refl
    words place (value ∷ word) = n.words (entry first place value) word ∙ by (nat_lt value (length first.columns.items)) refl
      where
        by : (b : Bool) → nat_lt value (length first.columns.items) ≡ b → (accepts layers (entry first place value) word && has store child word) ≡ (accepts layers (entry first place value) word && has store set (value ∷ word))
        by true inside =
            let d = first_domain store layer count first layers h in
            let v : value < length first.columns.items = grind (arith, nat_tests) in
            ap (λ b. accepts layers (entry first place value) word && b) (only.words value (omega arith) word)
        by false past =
            let none : accepts layers (entry first place value) word ≡ false = ap (λ n. accepts layers n word) (entry_past first place value (grind (arith, nat_tests))) ∙ empty_place layers h.layered.1 word in
            ap (λ b. b && has store child word) none ∙ sym (ap (λ b. b && has store set (value ∷ word)) none)
