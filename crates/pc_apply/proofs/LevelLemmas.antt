-- Planning one value and one state more.
use Rattle.std.proofs.Common.{◌≡◌, ℕ, zero, suc, ◌+◌, ◌<◌, ◌≤◌, Bool, true, false, List, [], ◌∷◌, ◌++◌, take, drop, length, get_or, slice_get, slice_index, Some, refl, sym, ap, ◌∙◌, subst, arith, inl, inr, ◌⊎◌, if◌then◌else◌, append_assoc, length-append}
use Rattle.std.specs.List.{list_any}
use Rattle.std.proofs.lemmas.List.Folds.{list_any_at}
use Rattle.std.proofs.lemmas.Option.{slice_get_within, get_or_from_slice_get}
use Rattle.std.proofs.lemmas.List.{append-nil, take_more, take_all, take-append-le, drop-append-le, length-drop, length_push}
use Rattle.pc_store.specs.declared.store.Store.{Store}
use Rattle.pc_store.specs.Sets.{domains_of}
use Rattle.pc_apply.specs.declared.plan.Plan.{Plan}
use Rattle.pc_apply.specs.declared.plan.Plan.TheVariants.{Known, Node}
use Rattle.pc_apply.specs.Levels.{Question, AllAt, Follows, Leads, with_state, StandsFor, part, LeadsFrom, Fits, EachFits, Planned}

-- what stands in a list with one more at its end
pub last_or_before : {X : Type 0} (xs : List X) (x y : X) (k : ℕ) → slice_get (xs ++ x ∷ []) k ≡ Some y → (slice_get xs k ≡ Some y) ⊎ ((k ≡ length xs) × (y ≡ x))
last_or_before [] x y zero h = inr (refl, cc)
last_or_before [] x y (suc k) h = absurd cc
last_or_before (z ∷ xs) x y zero h = inl h
last_or_before (z ∷ xs) x y (suc k) h = elim (last_or_before xs x y k h) [ inl before ↦ inl before | inr last ↦ inr (ap suc last.0, last.1) ]

pub still : {X : Type 0} (xs ys : List X) (k : ℕ) (x : X) → slice_get xs k ≡ Some x → slice_get (xs ++ ys) k ≡ Some x
still [] ys k x h = absurd cc
still (z ∷ xs) ys zero x h = h
still (z ∷ xs) ys (suc k) x h = still xs ys k x h

-- with one more the list goes on
with_more : {State : Type 0} (same : State → State → Bool) (states : List State) (state : State) → (more : List State) × (with_state same states state ≡ states ++ more)
with_more {State} same states state = by (list_any (same state) states)
  where
    by : (b : Bool) → (more : List State) × ((if b then states else states ++ state ∷ []) ≡ states ++ more)
    by true = ([], sym (append-nil states))
    by false = (state ∷ [], refl)

-- a state that is there is not put there again
pub with_there : {State : Type 0} (same : State → State → Bool) (states : List State) (state other : State) (place : ℕ) → slice_get states place ≡ Some other → same state other ≡ true → with_state same states state ≡ states
with_there same states state other place at is =
    let there = list_any_at (same state) states place other (slice_get_within states place other at) (ap (same state) (get_or_from_slice_get states place other other at) ∙ is) in
    ap (λ (b : Bool). if b then states else states ++ state ∷ []) there

with_all_at : {State : Type 0} (same : State → State → Bool) (IsAt : State → Type 0) (states : List State) (state : State) → AllAt IsAt states → IsAt state → AllAt IsAt (with_state same states state)
with_all_at {State} same IsAt states state h one = by (list_any (same state) states)
  where
    by : (b : Bool) → AllAt IsAt (if b then states else states ++ state ∷ [])
    by true = h
    by false = λ place s at. elim (last_or_before states state s place at) [ inl before ↦ h place s before | inr last ↦ subst IsAt (sym last.1) one ]

-- how far one state has been planned
pub record Expanded {State : Type 0} (store : Store) (layer : ℕ) (question next_question : Question State) (state : State) (count : ℕ) (old below : List State) (old_targets targets : List ℕ) : Type 0 where
  pub planned : Planned next_question.IsAt old below old_targets targets
  pub width : length targets ≡ length old_targets + count
  pub leads : (value place : ℕ) → slice_get (drop (length old_targets) targets) value ≡ Some place → Leads store layer question next_question state value below place

pub planned_none : {State : Type 0} (IsAt : State → Type 0) (below : List State) (targets : List ℕ) → AllAt IsAt below → Planned IsAt below below targets targets
planned_none IsAt below targets h = record { more_below = []; below_is = sym (append-nil below); more_targets = []; targets_are = sym (append-nil targets); all_at = h }

drop_length : {X : Type 0} (xs : List X) → drop (length xs) xs ≡ []
drop_length [] = refl
drop_length (x ∷ xs) = drop_length xs

pub expanded_none : {State : Type 0} (store : Store) (layer : ℕ) (question next_question : Question State) (state : State) (below : List State) (targets : List ℕ) → AllAt next_question.IsAt below → Expanded store layer question next_question state 0 below below targets targets
expanded_none store layer question next_question state below targets h = record {
  planned = planned_none next_question.IsAt below targets h;
  width = omega arith;
  leads = λ value place at. let none : slice_get [] value ≡ Some place = subst (λ l. slice_get l value ≡ Some place) (drop_length targets) at in absurd cc;
}

leads_more : {State : Type 0} (store : Store) (layer : ℕ) (question next_question : Question State) (state : State) (value : ℕ) (below more : List State) (place : ℕ) → Leads store layer question next_question state value below place → Leads store layer question next_question state value (below ++ more) place
leads_more store layer question next_question state value below more place h = (h.0, still below more place h.0 h.1, h.2)

-- states that are the same by a test follow on the same
abbrev pub FollowAlike : {State : Type 0} → (State → State → Bool) → Store → ℕ → Question State → Question State → Type 0
FollowAlike {State} same store layer question next_question = (state : State) (value : ℕ) (next other : State) → same next other ≡ true → Follows store layer question next_question state value next → Follows store layer question next_question state value other

-- one value more
pub expanded_more : {State : Type 0} (same : State → State → Bool) (store : Store) (layer : ℕ) (question next_question : Question State) (state : State) (count : ℕ) (old below : List State) (old_targets targets : List ℕ) (next : State) (place : ℕ) (new : List State) → FollowAlike same store layer question next_question →
    Expanded store layer question next_question state count old below old_targets targets → Follows store layer question next_question state count next → StandsFor same new place next → new ≡ with_state same below next →
    Expanded store layer question next_question state (count + 1) old new old_targets (targets ++ place ∷ [])
expanded_more {State} same store layer question next_question state count old below old_targets targets next place new alike h follows stands new_is = record {
  planned = record {
    more_below = h.planned.more_below ++ more.0;
    below_is = new_is ∙ more.1 ∙ ap (λ l. l ++ more.0) h.planned.below_is ∙ append_assoc old h.planned.more_below more.0;
    more_targets = h.planned.more_targets ++ place ∷ [];
    targets_are = ap (λ l. l ++ place ∷ []) h.planned.targets_are ∙ append_assoc old_targets h.planned.more_targets (place ∷ []);
    all_at = subst (AllAt next_question.IsAt) (sym new_is) (with_all_at same next_question.IsAt below next h.planned.all_at follows.is_at);
  };
  width = let w = h.width in omega (arith, length_push targets place);
  leads = λ value p at. elim (last_or_before (drop (length old_targets) targets) place p value (subst (λ l. slice_get l value ≡ Some p) (drop-append-le (length old_targets) targets (place ∷ []) inside) at)) [
    | inl before ↦ subst (λ l. Leads store layer question next_question state value l p) (sym (new_is ∙ more.1)) (leads_more store layer question next_question state value below more.0 p (h.leads value p before))
    | inr last ↦
        let here : value ≡ count = (let w = h.width in omega (arith, last.0, length-drop (length old_targets) targets)) in
        subst (λ v. Leads store layer question next_question state v new p) (sym here)
        (subst (Leads store layer question next_question state count new) (sym last.1) (stands.0, stands.1, alike state count next stands.0 stands.2 follows))
  ];
}
  where
    more : (m : List State) × (with_state same below next ≡ below ++ m)
    more = with_more same below next

    inside : length old_targets ≤ length targets
    inside = let w = h.width in omega arith

-- all values
pub expanded_all : {State : Type 0} (store : Store) (layer : ℕ) (question next_question : Question State) (state : State) (count : ℕ) (old below : List State) (old_targets targets : List ℕ) →
    Expanded store layer question next_question state count old below old_targets targets → LeadsFrom store layer question next_question state below targets (length old_targets) count
expanded_all store layer question next_question state count old below old_targets targets h =
    let w = h.width in
    let whole : part targets (length old_targets) count ≡ drop (length old_targets) targets = take_all count (drop (length old_targets) targets) (omega (arith, length-drop (length old_targets) targets)) in
    record { inside = omega arith; each = λ value place at. h.leads value place (subst (λ l. slice_get l value ≡ Some place) whole at) }

part_more : (targets more : List ℕ) (first count : ℕ) → first + count ≤ length targets → part (targets ++ more) first count ≡ part targets first count
part_more targets more first count le =
    ap (take count) (drop-append-le first targets more (omega arith)) ∙ take-append-le count (drop first targets) more (omega (arith, length-drop first targets))

-- a plan stays one
pub fits_more : {State : Type 0} (store : Store) (layer : ℕ) (question next_question : Question State) (state : State) (old below : List State) (old_targets targets : List ℕ) (plan : Plan) →
    Planned next_question.IsAt old below old_targets targets → Fits store layer question next_question state old old_targets plan → Fits store layer question next_question state below targets plan
fits_more store layer question next_question state old below old_targets targets (Known id) p h = h
fits_more store layer question next_question state old below old_targets targets (Node first) p h = record {
  inside = let i = h.inside in omega (arith, ap length p.targets_are, length-append old_targets p.more_targets);
  each = λ value place at.
      let same : part targets first (slice_index (domains_of store) layer) ≡ part old_targets first (slice_index (domains_of store) layer) =
      ap (λ l. part l first (slice_index (domains_of store) layer)) p.targets_are ∙ part_more old_targets p.more_targets first (slice_index (domains_of store) layer) h.inside in
      subst (λ l. Leads store layer question next_question state value l place) (sym p.below_is)
      (leads_more store layer question next_question state value old p.more_below place (h.each value place (subst (λ l. slice_get l value ≡ Some place) same at)));
}

-- one plan more
pub each_fits_more : {State : Type 0} (store : Store) (layer : ℕ) (question next_question : Question State) (states : List State) (i : ℕ) (state : State) (old below : List State) (old_targets targets : List ℕ) (plans : List Plan) (plan : Plan) → i < length states → state ≡ get_or states i state →
    EachFits store layer question next_question (take i states) old old_targets plans → Planned next_question.IsAt old below old_targets targets → Fits store layer question next_question state below targets plan → EachFits store layer question next_question (take (i + 1) states) below targets (plans ++ plan ∷ [])
each_fits_more {State} store layer question next_question states i state old below old_targets targets plans plan lt read h p fits = record {
  count = let c = h.count in length_push plans plan ∙ ap (λ n. n + 1) c ∙ sym (ap length more ∙ length_push (take i states) state);
  each = λ place s pl at at_plan.
      elim (last_or_before plans plan pl place at_plan) [
        | inl before ↦
            elim (last_or_before (take i states) state s place (subst (λ l. slice_get l place ≡ Some s) more at)) [
              | inl earlier ↦ fits_more store layer question next_question s old below old_targets targets pl p (h.each place s pl earlier before)
              | inr last ↦ absurd (within_plans place pl before (last.0 ∙ sym h.count))
            ]
        | inr last ↦
            elim (last_or_before (take i states) state s place (subst (λ l. slice_get l place ≡ Some s) more at)) [
              | inl earlier ↦ absurd (within_states place s earlier (last.0 ∙ h.count))
              | inr same ↦ subst (λ q. Fits store layer question next_question s below targets q) (sym last.1) (subst (λ u. Fits store layer question next_question u below targets plan) (sym same.1) fits)
            ]
      ];
  all_at = p.all_at;
}
  where
    more : take (i + 1) states ≡ take i states ++ state ∷ []
    more = take_more states i state lt ∙ ap (λ s. take i states ++ s ∷ []) (sym read)

    within_plans : (place : ℕ) (pl : Plan) → slice_get plans place ≡ Some pl → place ≡ length plans → ⊥
    within_plans place pl at end = let lt = slice_get_within plans place pl at in omega arith

    within_states : (place : ℕ) (s : State) → slice_get (take i states) place ≡ Some s → place ≡ length (take i states) → ⊥
    within_states place s at end = let lt = slice_get_within (take i states) place s at in omega arith

pub each_fits_none : {State : Type 0} (store : Store) (layer : ℕ) (question next_question : Question State) → EachFits store layer question next_question [] [] [] []
each_fits_none store layer question next_question = record { count = refl; each = λ place state plan at. absurd cc; all_at = λ place state at. absurd cc }

-- what is read of a list stands there
pub read_stands : {X : Type 0} (xs : List X) (i : ℕ) (x : X) → i < length xs → x ≡ get_or xs i x → slice_get xs i ≡ Some x
read_stands [] i x lt read = absurd (omega arith)
read_stands (y ∷ xs) zero x lt read = ap Some (sym read)
read_stands (y ∷ xs) (suc i) x lt read = read_stands xs i x (omega arith) read
