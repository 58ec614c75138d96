-- Carrying plans out.
use Rattle.std.proofs.Common.{◌≡◌, ℕ, zero, suc, ◌+◌, ◌<◌, ◌≤◌, Bool, List, [], ◌∷◌, ◌++◌, take, drop, set, length, get_or, slice_get, slice_index, Some, None, All, refl, sym, ap, ◌∙◌, subst, arith, inl, inr, ◌⊎◌}
use Rattle.std.proofs.lemmas.List.{take_more, take_all, length_push}
use Rattle.std.proofs.lemmas.Option.{slice_get_within, get_or_from_slice_get, slice_get-get_or}
use Rattle.pc_store.specs.declared.id.Id.{Id}
use Rattle.pc_store.specs.declared.store.Store.{Store}
use Rattle.pc_store.specs.Sets.{IsIdAt, has_in, leads, Keeps}
use Rattle.pc_store.proofs.SetLemmas.{keeps_then}
use Rattle.pc_apply.specs.declared.plan.Plan.{Plan}
use Rattle.pc_apply.specs.declared.plan.Plan.TheVariants.{Known, Node}
use Rattle.pc_apply.specs.Levels.{part, InRange, Picks, CarriedOut, EachCarriedOut}
use Rattle.pc_apply.proofs.LevelLemmas.{last_or_before, still}

stands_last : {X : Type 0} (xs : List X) (x : X) → slice_get (xs ++ x ∷ []) (length xs) ≡ Some x
stands_last [] x = refl
stands_last (y ∷ xs) x = stands_last xs x

pub picks_none : (below : List Id) → Picks below [] []
picks_none below = record { count = refl; each = λ value place id at. absurd cc }

-- one place more
pub picks_more : (below : List Id) (places : List ℕ) (ids : List Id) (i : ℕ) (d : Id) → i < length places → Picks below (take i places) ids → Picks below (take (i + 1) places) (ids ++ get_or below (get_or places i 0) d ∷ [])
picks_more below places ids i d lt h = record {
  count = length_push ids id ∙ ap (λ n. n + 1) h.count ∙ sym (ap length more_places ∙ length_push (take i places) place);
  each = λ value p x at there. by value p x (subst (λ l. slice_get l value ≡ Some p) more_places at) there;
}
  where
    place : ℕ
    place = get_or places i 0

    id : Id
    id = get_or below place d

    more_places : take (i + 1) places ≡ take i places ++ place ∷ []
    more_places = take_more places i 0 lt

    by : (value p : ℕ) (x : Id) → slice_get (take i places ++ place ∷ []) value ≡ Some p → slice_get below p ≡ Some x → slice_get (ids ++ id ∷ []) value ≡ Some x
    by value p x at there = elim (last_or_before (take i places) place p value at) [
      | inl before ↦ still ids (id ∷ []) value x (h.each value p x before there)
      | inr last ↦
          let same : id ≡ x = ap (λ q. get_or below q d) (sym last.1) ∙ get_or_from_slice_get below p x d there in
          let here : value ≡ length ids = last.0 ∙ sym h.count in
          subst (λ v. slice_get (ids ++ id ∷ []) v ≡ Some x) (sym here) (stands_last ids id ∙ ap Some same)
    ]

pub picks_all : (below : List Id) (places : List ℕ) (ids : List Id) (i : ℕ) → length places ≤ i → Picks below (take i places) ids → Picks below places ids
picks_all below places ids i ge h = subst (λ l. Picks below l ids) (take_all i places ge) h

-- what holds of all ids holds of those picked
pub picks_hold : (P : Id → Type 0) (below : List Id) (places : List ℕ) (children : List Id) → Picks below places children → All (λ place. place < length below) places → All P below → All P children
picks_hold P below places children h inside all k d lt =
    let l : k < length places = (let c = h.count in omega arith) in
    let place = get_or places k 0 in
    let within : place < length below = inside k 0 l in
    let there : slice_get children k ≡ Some (get_or below place d) = h.each k place (get_or below place d) (slice_get-get_or places k 0 l) (slice_get-get_or below place d within) in
    subst P (sym (get_or_from_slice_get children k (get_or below place d) d there)) (all place d within)

-- words that go on in children go on in them in a later state
pub leads_kept : (old now : Store) (layer : ℕ) (children : List Id) → Keeps old now → All (IsIdAt old layer) children → (word : List ℕ) → leads now children word ≡ leads old children word
leads_kept old now layer children keeps all [] = refl
leads_kept old now layer children keeps all (value ∷ word) = by (slice_get children value) refl
  where
    by : (o : Rattle.std.proofs.Common.Option Id) → slice_get children value ≡ o → has_in now o word ≡ has_in old o word
    by None e = refl
    by (Some id) e =
        let lt = slice_get_within children value id e in
        keeps.sets id (subst (IsIdAt old layer) (get_or_from_slice_get children value id id e) (all value id lt)).0 word

id_kept : (old now : Store) (layer : ℕ) (id : Id) → Keeps old now → IsIdAt old layer id → IsIdAt now layer id
id_kept old now layer id keeps h = (keeps.ids id h.0, h.1)

pub ids_kept : (old now : Store) (layer : ℕ) (ids : List Id) → Keeps old now → All (IsIdAt old layer) ids → All (IsIdAt now layer) ids
ids_kept old now layer ids keeps all k d lt = id_kept old now layer (get_or ids k d) keeps (all k d lt)

-- a plan that was carried out stays so
carried_later : (old mid now : Store) (layer : ℕ) (targets : List ℕ) (count : ℕ) (below : List Id) (plan : Plan) (id : Id) → Keeps mid now → CarriedOut old mid layer targets count below plan id → CarriedOut old now layer targets count below plan id
carried_later old mid now layer targets count below (Known known) id keeps h = h
carried_later old mid now layer targets count below (Node first) id keeps h = record {
  is_id = id_kept mid now layer id keeps h.is_id;
  children = h.children;
  picked = h.picked;
  words = λ word. keeps.sets id h.is_id.0 word ∙ h.words word;
}

-- and is so over an earlier state
carried_before : (old mid now : Store) (layer : ℕ) (targets : List ℕ) (count : ℕ) (below : List Id) (plan : Plan) (id : Id) → Keeps old mid → All (IsIdAt old (layer + 1)) below → InRange targets count (length below) plan → CarriedOut mid now layer targets count below plan id → CarriedOut old now layer targets count below plan id
carried_before old mid now layer targets count below (Known known) id keeps all range h = h
carried_before old mid now layer targets count below (Node first) id keeps all range h = record {
  is_id = h.is_id;
  children = h.children;
  picked = h.picked;
  words = λ word. h.words word ∙ leads_kept old mid (layer + 1) h.children keeps (picks_hold (IsIdAt old (layer + 1)) below (part targets first count) h.children h.picked range.1 all) word;
}

-- how far plans have been carried out
pub record Building (old now : Store) (layer : ℕ) (targets : List ℕ) (count : ℕ) (below : List Id) (plans : List Plan) (ids : List Id) : Type 0 where
  pub done : EachCarriedOut old now layer targets count below plans ids
  pub keeps : Keeps old now

pub building_none : (old now : Store) (layer : ℕ) (targets : List ℕ) (count : ℕ) (below : List Id) → Keeps old now → Building old now layer targets count below [] []
building_none old now layer targets count below keeps = record { done = record { length_is = refl; each = λ place plan id at. absurd cc }; keeps = keeps }

pub building_more : (old mid now : Store) (layer : ℕ) (targets : List ℕ) (count : ℕ) (below : List Id) (plans : List Plan) (i : ℕ) (plan : Plan) (ids : List Id) (id : Id) → i < length plans → plan ≡ get_or plans i plan → All (IsIdAt old (layer + 1)) below → InRange targets count (length below) plan →
    Building old mid layer targets count below (take i plans) ids → CarriedOut mid now layer targets count below plan id → Keeps mid now → Building old now layer targets count below (take (i + 1) plans) (ids ++ id ∷ [])
building_more old mid now layer targets count below plans i plan ids id lt read all range h one keeps = record {
  done = record {
    length_is = length_push ids id ∙ ap (λ n. n + 1) h.done.length_is ∙ sym (ap length more ∙ length_push (take i plans) plan);
    each = λ place p x at at_id.
        elim (last_or_before ids id x place at_id) [
          | inl before ↦
              elim (last_or_before (take i plans) plan p place (subst (λ l. slice_get l place ≡ Some p) more at)) [
                | inl earlier ↦ carried_later old mid now layer targets count below p x keeps (h.done.each place p x earlier before)
                | inr last ↦ absurd (let l = slice_get_within ids place x before in let c = h.done.length_is in let e = last.0 in omega arith)
              ]
          | inr last ↦
              elim (last_or_before (take i plans) plan p place (subst (λ l. slice_get l place ≡ Some p) more at)) [
                | inl earlier ↦ absurd (let l = slice_get_within (take i plans) place p earlier in let c = h.done.length_is in let e = last.0 in omega arith)
                | inr same ↦
                    subst (λ y. CarriedOut old now layer targets count below p y) (sym last.1)
                    (subst (λ q. CarriedOut old now layer targets count below q id) (sym same.1) (carried_before old mid now layer targets count below plan id h.keeps all range one))
              ]
        ];
  };
  keeps = keeps_then old mid now h.keeps keeps;
}
  where
    more : take (i + 1) plans ≡ take i plans ++ plan ∷ []
    more = take_more plans i plan lt ∙ ap (λ p. take i plans ++ p ∷ []) (sym read)
