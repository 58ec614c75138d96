-- Nodes that lead on to one set.
use Rattle.std.proofs.Common.{◌≡◌, ℕ, ◌+◌, ◌<◌, ◌≤◌, nat_lt, nat_eq, Bool, true, false, ◌&&◌, ◌||◌, cond, List, [], ◌∷◌, ◌++◌, take, drop, replicate, length, get_or, slice_get, set, Some, All, inl, inr, get_or-set_same, get_or-set_other, refl, sym, ap, ◌∙◌, subst, arith}
use Rattle.std.proofs.lemmas.Bool.{ltb-true, ltb-false, cases_eq, eq-eqb, ne_eqb, or_right}
use Rattle.std.proofs.lemmas.List.{length-take-le, length-replicate, length-set, get_or-take, get_or-replicate, drop_more, take_more, take_all}
use Rattle.std.proofs.lemmas.List.Folds.{list_any-append}
use Rattle.std.proofs.lemmas.Option.{slice_get-get_or, slice_get_past, get_or_from_slice_get}
use Rattle.std.specs.List.{list_any}
use Rattle.pc_diagram.specs.Words.{is_word}
use Rattle.pc_diagram.specs.Fitting.{is_number, takes}
use Rattle.pc_store.specs.declared.id.Id.{Id}
use Rattle.pc_store.specs.declared.store.Store.{Store}
use Rattle.pc_store.specs.Sets.{domains_of, IsIdAt, has, has_in, leads, Keeps}
use Rattle.pc_store.proofs.SetLemmas.{keeps_then}
use Rattle.pc_build.specs.Chains.{leads_on, Children}
use Rattle.pc_build.proofs.WordLemmas.{and_assoc, and_true, drop_one_more, TakenAt, taken_at}

-- words that go on in children go on in their set
pub children_lead : (store : Store) (test : ℕ → Bool) (below other : Id) (count : ℕ) (children : List Id) → Children test below other count children → ((value : ℕ) → test value ≡ false → (word : List ℕ) → has store other word ≡ false) → (word : List ℕ) → leads store children word ≡ leads_on store count test below word
children_lead store test below other count children h none [] = refl
children_lead store test below other count children h none (value ∷ word) = by (nat_lt value count) refl
  where
    choice : (b : Bool) → test value ≡ b → has store (cond b below other) word ≡ (b && has store below word)
    choice true e = refl
    choice false e = none value e word

    by : (b : Bool) → nat_lt value count ≡ b → has_in store (slice_get children value) word ≡ (b && (test value && has store below word))
    by true e = ap (λ o. has_in store o word) (h.each value (ltb-true value count e)) ∙ choice (test value) refl
    by false e = ap (λ o. has_in store o word) (slice_get_past children value (let w = h.width in omega (arith, ltb-false value count e)))

-- the first children alone
pub first_children : (test : ℕ → Bool) (below other : Id) (count more : ℕ) (children : List Id) → count ≤ more → Children test below other more children → Children test below other count (take count children)
first_children test below other count more children le h = record {
  width = length-take-le count children inside;
  each = λ value lt.
      let here : value < length (take count children) = omega (arith, length-take-le count children inside) in
      let there : value < more = omega arith in
      slice_get-get_or (take count children) value below here ∙ ap Some (get_or-take count children value below lt ∙ get_or_from_slice_get children value (cond (test value) below other) below (h.each value there));
}
  where
    inside : count ≤ length children
    inside = let w = h.width in omega arith

-- whether a value is among the first of these
abbrev pub among_first : List ℕ → ℕ → ℕ → Bool
among_first chosen count value = list_any (nat_eq value) (take count chosen)

-- one value more was chosen
module _ (chosen : List ℕ) (i value : ℕ) (below other : Id) (count : ℕ) (children : List Id) (lt : i < length chosen) (read : value ≡ get_or chosen i value) (h : Children (among_first chosen i) below other count children) where
  one_more : (k : ℕ) → among_first chosen (i + 1) k ≡ (among_first chosen i k || (nat_eq k value || false))
  one_more k = ap (list_any (nat_eq k)) (take_more chosen i value lt ∙ ap (λ v. take i chosen ++ v ∷ []) (sym read)) ∙ list_any-append (nat_eq k) (take i chosen) (value ∷ [])

  itself : (k : ℕ) → k ≡ value → among_first chosen (i + 1) k ≡ true
  itself k same = one_more k ∙ or_right (among_first chosen i k) (nat_eq k value || false) (ap (λ b. b || false) (eq-eqb k value same))

  another : (k : ℕ) → (k ≡ value → ⊥) → among_first chosen (i + 1) k ≡ among_first chosen i k
  another k differs = one_more k ∙ ap (λ b. among_first chosen i k || (b || false)) (ne_eqb k value differs) ∙ or_false (among_first chosen i k)
    where
      or_false : (b : Bool) → (b || false) ≡ b
      or_false true = refl
      or_false false = refl

  pub chosen_one : value < count → Children (among_first chosen (i + 1)) below other count (set children value below)
  chosen_one inside = record {
    width = length-set children value below ∙ h.width;
    each = λ k under.
        let there : k < length (set children value below) = (let w = h.width in omega (arith, length-set children value below)) in
        slice_get-get_or (set children value below) k below there ∙ ap Some (elim (cases_eq k value) [
          | inl same ↦ ap (λ j. get_or (set children value below) j below) same ∙ get_or-set_same children value below below (let w = h.width in omega arith) ∙ ap (λ b. cond b below other) (sym (itself k same))
          | inr differs ↦ get_or-set_other children value k below below differs ∙ get_or_from_slice_get children k (cond (among_first chosen i k) below other) below (h.each k under) ∙ ap (λ b. cond b below other) (sym (another k differs))
        ]);
  }

  pub chosen_past : count ≤ value → Children (among_first chosen (i + 1)) below other count children
  chosen_past past = record {
    width = h.width;
    each = λ k under. h.each k under ∙ ap (λ b. Some (cond b below other)) (sym (another k (λ same. omega arith)));
  }

-- no value is chosen
pub chosen_none : (chosen : List ℕ) (below other : Id) (count : ℕ) → Children (among_first chosen 0) below other count (replicate count other)
chosen_none chosen below other count = record {
  width = length-replicate count other;
  each = λ value lt. slice_get-get_or (replicate count other) value below (omega (arith, length-replicate count other)) ∙ ap Some (get_or-replicate count value other below lt);
}

-- all are
pub chosen_all : (chosen : List ℕ) (i : ℕ) (below other : Id) (count : ℕ) (children : List Id) → length chosen ≤ i → Children (among_first chosen i) below other count children → Children (λ value. list_any (nat_eq value) chosen) below other count children
chosen_all chosen i below other count children past h = record {
  width = h.width;
  each = λ value lt. h.each value lt ∙ ap (λ l. Some (cond (list_any (nat_eq value) l) below other)) (take_all i chosen past);
}

-- the same child everywhere
pub same_children : (below other : Id) (count : ℕ) → Children (λ value. true) below other count (replicate count below)
same_children below other count = record {
  width = length-replicate count below;
  each = λ value lt. slice_get-get_or (replicate count below) value below (omega (arith, length-replicate count below)) ∙ ap Some (get_or-replicate count value below below lt);
}

-- all children are of a layer
pub children_at : (P : Id → Type 0) (test : ℕ → Bool) (below other : Id) (count : ℕ) (children : List Id) → P below → P other → Children test below other count children → All P children
children_at P test below other count children p q h k d lt =
    let inside : k < count = (let w = h.width in omega arith) in
    subst P (sym (get_or_from_slice_get children k (cond (test k) below other) d (h.each k inside))) (choice (test k))
  where
    choice : (b : Bool) → P (cond b below other)
    choice true = p
    choice false = q

-- a set that goes on in another, so many layers below
pub record Widened (old now : Store) (layer distance : ℕ) (below id : Id) : Type 0 where
  pub is_id : IsIdAt now layer id
  pub words : (word : List ℕ) → has now id word ≡ (is_word (drop layer (domains_of old)) word && has old below (drop distance word))
  pub keeps : Keeps old now

-- one layer more
pub widened_more : (old mid now : Store) (layer distance : ℕ) (below wide id : Id) → layer < length (domains_of old) → Widened old mid (layer + 1) distance below wide → IsIdAt now layer id → ((word : List ℕ) → has now id word ≡ leads_on mid (get_or (domains_of mid) layer 0) (λ value. true) wide word) → Keeps mid now → Widened old now layer (distance + 1) below id
widened_more old mid now layer distance below wide id lt h is_id words keeps = record {
  is_id = is_id;
  words = by;
  keeps = keeps_then old mid now h.keeps keeps;
}
  where
    domains : List ℕ
    domains = domains_of old

    first : drop layer domains ≡ get_or domains layer 0 ∷ drop (layer + 1) domains
    first = drop_more domains layer 0 lt

    by : (word : List ℕ) → has now id word ≡ (is_word (drop layer domains) word && has old below (drop (distance + 1) word))
    by [] = words [] ∙ sym (ap (λ l. is_word l [] && has old below (drop (distance + 1) [])) first)
    by (value ∷ word) =
        words (value ∷ word)
        ∙ ap (λ d. nat_lt value (get_or d layer 0) && has mid wide word) h.keeps.domains
        ∙ ap (λ b. nat_lt value (get_or domains layer 0) && b) (h.words word)
        ∙ and_assoc (nat_lt value (get_or domains layer 0)) (is_word (drop (layer + 1) domains) word) (has old below (drop distance word))
        ∙ ap (λ l. is_word l (value ∷ word) && has old below (drop distance word)) (sym first)
        ∙ ap (λ l. is_word (drop layer domains) (value ∷ word) && has old below l) (sym (drop_one_more distance value word))

-- a set goes on in itself, no layer below
pub widened_none : (store : Store) (layer : ℕ) (id : Id) → IsIdAt store layer id → ((word : List ℕ) → has store id word ≡ true → is_word (drop layer (domains_of store)) word ≡ true) → Keeps store store → Widened store store layer 0 id id
widened_none store layer id is over keeps = record { is_id = is; words = λ word. by word (has store id word) refl; keeps = keeps }
  where
    by : (word : List ℕ) (b : Bool) → has store id word ≡ b → has store id word ≡ (is_word (drop layer (domains_of store)) word && has store id word)
    by word true e = sym (ap (λ b. b && has store id word) (over word e))
    by word false e = e ∙ sym (only (is_word (drop layer (domains_of store)) word) ∙ refl)
      where
        only : (b : Bool) → (b && has store id word) ≡ false
        only true = e
        only false = refl

-- words whose value at a variable is one of these
pub one_of_words : (store : Store) (domains : List ℕ) (variable count : ℕ) (values : List ℕ) (rest : Id) (word : List ℕ) → variable < length domains → count ≡ get_or domains variable 0 → ((w : List ℕ) → has store rest w ≡ is_word (drop (variable + 1) domains) w) →
    (is_word domains word && leads_on store count (λ value. list_any (nat_eq value) values) rest (drop variable word)) ≡ (is_word domains word && list_any (takes word variable) values)
one_of_words store domains variable count values rest word lt count_is full = by (is_word domains word) refl
  where
    by : (b : Bool) → is_word domains word ≡ b → (b && leads_on store count (λ value. list_any (nat_eq value) values) rest (drop variable word)) ≡ (b && list_any (takes word variable) values)
    by false e = refl
    by true e =
        let at : TakenAt domains word variable = taken_at domains word variable lt e in
        ap (leads_on store count (λ value. list_any (nat_eq value) values) rest) at.word_is
        ∙ ap (λ b. b && (list_any (nat_eq at.value) values && has store rest at.rest)) (ap (nat_lt at.value) count_is ∙ at.in_range)
        ∙ ap (λ b. list_any (nat_eq at.value) values && b) (full at.rest ∙ at.rest_is)
        ∙ and_true (list_any (nat_eq at.value) values)
        ∙ ap (λ o. list_any (is_number o) values) (sym at.taken)
