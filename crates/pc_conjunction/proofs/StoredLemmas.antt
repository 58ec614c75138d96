-- The sets of places, one layer after another.
use Rattle.std.proofs.Common.{◌≡◌, ℕ, zero, suc, ◌+◌, ◌-◌, ◌<◌, ◌≤◌, nat_lt, Bool, true, false, List, [], ◌∷◌, ◌++◌, reverse, length, take, drop, get_or, slice_get, None, All, refl, sym, ap, ◌∙◌, subst, arith}
use Rattle.std.proofs.lemmas.Bool.Decides.{nat_tests}
use Rattle.std.proofs.lemmas.List.{get_or-map, length-map, map-append, take_more, length_push, get_or_append_left, get_or_push, get_or-reverse, length-reverse}
use Rattle.std.proofs.lemmas.Option.{slice_get-get_or}
use Rattle.pc_diagram.specs.Words.{is_word}
use Rattle.pc_store.specs.declared.id.Id.{Id}
use Rattle.pc_store.specs.declared.store.Store.{Store}
use Rattle.pc_store.specs.Sets.{domains_of, IsIdAt, has, has_in, leads, Keeps}
use Rattle.pc_apply.proofs.BuildLemmas.{leads_kept, ids_kept}
use Rattle.pc_conjunction.specs.declared.layer.Layer.{Layer}
use Rattle.pc_conjunction.specs.Places.{entry, place_count, domains, accepts, IsColumn, IsLayered}
use Rattle.pc_conjunction.specs.Reached.{is_marked, AreReached}
use Rattle.pc_conjunction.specs.Stores.{ArePlaces, AreOver, goes_on}
use Rattle.pc_conjunction.proofs.PlaceLemmas.{column_is, empty_place, entry_past, entry_within}
use Rattle.pc_conjunction.proofs.TargetLemmas.{drop_past}

none : Id
none = record { layer = 0; node = 0 }

-- one set more that a place goes on in
pub goes_more : (columns : List (List ℕ)) (below : List Id) (place i : ℕ) → i < length columns → goes_on (take (i + 1) columns) below place ≡ goes_on (take i columns) below place ++ get_or below (get_or (get_or columns i []) place 0) (record { layer = 0; node = 0 }) ∷ []
goes_more columns below place i lt = ap (λ cs. goes_on cs below place) (take_more columns i [] lt) ∙ map-append (λ places. get_or below (get_or places place 0) (record { layer = 0; node = 0 })) (take i columns) (get_or columns i [] ∷ [])

pub goes_all : (store : Store) (layer count : ℕ) (columns : List (List ℕ)) (below : List Id) (place : ℕ) → All (IsIdAt store layer) below → All (IsColumn count (length below)) columns → place < count → All (IsIdAt store layer) (goes_on columns below place)
goes_all store layer count columns below place ids are lt = λ k d inside.
    let n : k < length columns = (let w = length-map columns (λ places. get_or below (get_or places place 0) (record { layer = 0; node = 0 })) in omega arith) in
    let one = are k [] n in
    let within : get_or (get_or columns k []) place 0 < length below = one.within place 0 (let w = one.width in omega arith) in
    subst (IsIdAt store layer) (sym (get_or-map (λ places. get_or below (get_or places place 0) (record { layer = 0; node = 0 })) columns k [] d n))
    (ids (get_or (get_or columns k []) place 0) (record { layer = 0; node = 0 }) within)

pub goes_width : (columns : List (List ℕ)) (below : List Id) (place : ℕ) → length (goes_on columns below place) ≡ length columns
goes_width columns below place = length-map columns (λ places. get_or below (get_or places place 0) (record { layer = 0; node = 0 }))

-- an id of a layer stays one
pub id_kept : (old now : Store) (layer : ℕ) (id : Id) → Keeps old now → IsIdAt old layer id → IsIdAt now layer id
id_kept old now layer id keeps h = (keeps.ids id h.0, h.1)

pub over_none : (store : Store) (layer : ℕ) (columns : List (List ℕ)) (below : List Id) (marks : List Bool) → AreOver store store layer columns below marks 0 []
over_none store layer columns below marks = record { count_is = refl; ids = λ k d lt. absurd (omega arith); words = λ place d lt. absurd (omega arith) }

-- one place more
pub over_more : (old mid now : Store) (layer : ℕ) (columns : List (List ℕ)) (below : List Id) (marks : List Bool) (count : ℕ) (sets : List Id) (id : Id) → Keeps old mid → Keeps mid now → All (IsIdAt old (layer + 1)) (goes_on columns below count) → AreOver old mid layer columns below marks count sets →
    IsIdAt now layer id → (is_marked marks count ≡ true → (word : List ℕ) → has now id word ≡ leads mid (goes_on columns below count) word) → AreOver old now layer columns below marks (count + 1) (sets ++ id ∷ [])
over_more old mid now layer columns below marks count sets id before after known h is words = record {
  count_is = length_push sets id ∙ ap (λ n. n + 1) h.count_is;
  ids = λ k d lt. id_at k d lt (nat_lt k (length sets)) refl;
  words = λ place d lt there word. by place d lt there word (nat_lt place (length sets)) refl;
}
  where
    long : length (sets ++ id ∷ []) ≡ length sets + 1
    long = length_push sets id

    id_at : (k : ℕ) (d : Id) → k < length (sets ++ id ∷ []) → (b : Bool) → nat_lt k (length sets) ≡ b → IsIdAt now layer (get_or (sets ++ id ∷ []) k d)
    id_at k d lt true inside =
        let l : k < length sets = grind (arith, nat_tests) in
        subst (IsIdAt now layer) (sym (get_or_append_left sets (id ∷ []) d k l)) (ids_kept mid now layer sets after h.ids k d l)
    id_at k d lt false last =
        let here : length sets ≡ k = (let n = long in grind (arith, nat_tests)) in
        subst (IsIdAt now layer) (sym (get_or_push sets id d k here)) is

    by : (place : ℕ) (d : Id) → place < length (sets ++ id ∷ []) → is_marked marks place ≡ true → (word : List ℕ) → (b : Bool) → nat_lt place (length sets) ≡ b → has now (get_or (sets ++ id ∷ []) place d) word ≡ leads old (goes_on columns below place) word
    by place d lt there word true inside =
        let l : place < length sets = grind (arith, nat_tests) in
        ap (λ i. has now i word) (get_or_append_left sets (id ∷ []) d place l) ∙ after.sets (get_or sets place d) (h.ids place d l).0 word ∙ h.words place d l there word
    by place d lt there word false last =
        let here : length sets ≡ place = (let n = long in grind (arith, nat_tests)) in
        let same : count ≡ place = sym h.count_is ∙ here in
        ap (λ i. has now i word) (get_or_push sets id d place here) ∙ words (ap (is_marked marks) same ∙ there) word ∙ leads_kept old mid (layer + 1) (goes_on columns below count) before known word ∙ ap (λ p. leads old (goes_on columns below p) word) same

-- the sets over those of the reached places below are those of the places
pub places_over : (mid now : Store) (layer : ℕ) (first : Layer) (layers : List Layer) (marks reached : List Bool) (below sets : List Id) → IsLayered (first ∷ layers) → AreReached marks first.columns.items (place_count layers) reached → ArePlaces mid (layer + 1) layers reached below → AreOver mid now layer first.columns.items below marks first.count sets →
    ArePlaces now layer (first ∷ layers) marks sets
places_over mid now layer first layers marks reached below sets h r b o = record {
  count_is = o.count_is;
  ids = o.ids;
  words = λ place d lt there word. o.words place d lt there word ∙ by place (let n = o.count_is in omega arith) there word;
}
  where
    by : (place : ℕ) → place < first.count → is_marked marks place ≡ true → (word : List ℕ) → leads mid (goes_on first.columns.items below place) word ≡ accepts (first ∷ layers) place word
    by place lt there [] = refl
    by place lt there (value ∷ word) = at (nat_lt value (length first.columns.items)) refl
      where
        at : (c : Bool) → nat_lt value (length first.columns.items) ≡ c → has_in mid (slice_get (goes_on first.columns.items below place) value) word ≡ accepts layers (entry first place value) word
        at true inside =
            let l : value < length first.columns.items = grind (arith, nat_tests) in
            let long : value < length (goes_on first.columns.items below place) = (let w = goes_width first.columns.items below place in omega arith) in
            let within : entry first place value < length below = (let e = entry_within first layers h place value in let c = b.count_is in omega arith) in
            let wide = (column_is (place_count layers) first h.0 value l).width in
            let marked = r.led value place l (omega arith) there in
            ap (λ o. has_in mid o word) (slice_get-get_or (goes_on first.columns.items below place) value (record { layer = 0; node = 0 }) long)
            ∙ ap (λ i. has mid i word) (get_or-map (λ places. get_or below (get_or places place 0) (record { layer = 0; node = 0 })) first.columns.items value [] (record { layer = 0; node = 0 }) l)
            ∙ b.words (entry first place value) (record { layer = 0; node = 0 }) within marked word
        at false past =
            let ge : length first.columns.items ≤ value = grind (arith, nat_tests) in
            let none_there : slice_get (goes_on first.columns.items below place) value ≡ None = past_end (goes_on first.columns.items below place) value (let w = goes_width first.columns.items below place in omega arith) in
            ap (λ o. has_in mid o word) none_there ∙ sym (ap (λ n. accepts layers n word) (entry_past first place value ge) ∙ empty_place layers h.1 word)
          where
            past_end : (xs : List Id) (i : ℕ) → length xs ≤ i → slice_get xs i ≡ None
            past_end [] i le = refl
            past_end (x ∷ xs) zero le = absurd (omega arith)
            past_end (x ∷ xs) (suc i) le = past_end xs i (omega arith)

-- the sets of the two places past the last layer
pub places_past : (store : Store) (layer : ℕ) (empty full : Id) (marks : List Bool) → layer ≡ length (domains_of store) → IsIdAt store layer empty → ((word : List ℕ) → has store empty word ≡ false) → IsIdAt store layer full → ((word : List ℕ) → has store full word ≡ is_word (drop layer (domains_of store)) word) →
    ArePlaces store layer [] marks (empty ∷ full ∷ [])
places_past store layer empty full marks end empty_is without full_is all = record {
  count_is = refl;
  ids = ids;
  words = λ place d lt there word. words place d lt word;
}
  where
    ids : (k : ℕ) (d : Id) → k < 2 → IsIdAt store layer (get_or (empty ∷ full ∷ []) k d)
    ids zero d lt = empty_is
    ids (suc zero) d lt = full_is
    ids (suc (suc k)) d lt = absurd (omega arith)

    past : drop layer (domains_of store) ≡ []
    past = drop_past (domains_of store) layer (omega arith)

    none_at : (word : List ℕ) → false ≡ accepts [] 0 word
    none_at [] = refl
    none_at (value ∷ word) = refl

    all_at : (word : List ℕ) → is_word [] word ≡ accepts [] 1 word
    all_at [] = refl
    all_at (value ∷ word) = refl

    words : (place : ℕ) (d : Id) → place < 2 → (word : List ℕ) → has store (get_or (empty ∷ full ∷ []) place d) word ≡ accepts [] place word
    words zero d lt word = without word ∙ none_at word
    words (suc zero) d lt word = all word ∙ ap (λ l. is_word l word) past ∙ all_at word
    words (suc (suc k)) d lt word = absurd (omega arith)

-- how many values the variable of a layer takes, where the last layer stands first
pub domain_at : (layers : List Layer) (place : ℕ) (d : Layer) → place < length layers → get_or (domains (reverse layers)) place 0 ≡ length (get_or layers (length layers - 1 - place) d).columns.items
domain_at layers place d lt =
    get_or-map (λ (layer : Layer). length layer.columns.items) (reverse layers) place d 0 (let l = length-reverse layers in omega arith)
    ∙ ap (λ (layer : Layer). length layer.columns.items) (get_or-reverse layers place d lt)

pub length-domains : (layers : List Layer) → length (domains (reverse layers)) ≡ length layers
length-domains layers = length-map (reverse layers) (λ (layer : Layer). length layer.columns.items) ∙ length-reverse layers
