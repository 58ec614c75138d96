-- Lists of sets of one layer.
use Rattle.std.proofs.Common.{◌≡◌, ℕ, ◌+◌, true, Bool, List, [], ◌∷◌, ◌++◌, map, length, get_or, slice_get, Some, All, refl, sym, ap, ◌∙◌, subst, inl, inr, append_assoc}
use Rattle.std.specs.Cmp.Lexicographic.{pointwise}
use Rattle.std.specs.Option.{option_map}
use Rattle.std.proofs.lemmas.List.{append-nil, length_push}
use Rattle.std.proofs.lemmas.Option.{slice_get-map, get_or_from_slice_get}
use Rattle.std.proofs.lemmas.Slice.Eq.{slice_eq-Decides}
use Rattle.pc_store.specs.declared.id.Node.{Node}
use Rattle.pc_store.specs.declared.store.Store.{Store}
use Rattle.pc_store.specs.Sets.{IsNodeAt}
use Rattle.pc_apply.specs.declared.step.Step.{Step}
use Rattle.pc_apply.specs.declared.step.Steps.{Steps}
use Rattle.pc_apply.specs.Lists.{IsWith, ListsAt, Grows, IsStep, HasSteps}
use Rattle.pc_apply.proofs.LevelLemmas.{last_or_before, still}
use Rattle.pc_apply.proofs.SplitLemmas.{same_node, same_node-Decides}

-- lists that a test finds equal
pub lists_equal : (xs ys : List Node) (r : Bool) → r ≡ pointwise same_node xs ys → r ≡ true → xs ≡ ys
lists_equal xs ys r e = (slice_eq-Decides same_node-Decides xs ys r e).0

-- an equal list that stands at a place
pub list_stands : {K : Type 0} (items : K → List Node) (ks : List K) (place : ℕ) (k : K) (list : List Node) → slice_get ks place ≡ Some k → pointwise same_node list (items k) ≡ true → slice_get (map items ks) place ≡ Some list
list_stands items ks place k list at same =
    slice_get-map items ks place ∙ ap (option_map items) at ∙ ap Some (sym ((slice_eq-Decides same_node-Decides list (items k) (pointwise same_node list (items k)) refl).0 same))

-- what lists go on with
grown : (old new : List (List Node)) (list : List Node) → IsWith old list new → (more : List (List Node)) × (new ≡ old ++ more)
grown old new list h = elim h [ inl same ↦ ([], same ∙ sym (append-nil old)) | inr more ↦ (list ∷ [], more) ]

pub with_lists_at : (store : Store) (layer : ℕ) (old new : List (List Node)) (list : List Node) → IsWith old list new → ListsAt store layer old → All (IsNodeAt store layer) list → ListsAt store layer new
with_lists_at store layer old new list h all one =
    elim h [
      | inl same ↦ subst (ListsAt store layer) (sym same) all
      | inr more ↦ subst (ListsAt store layer) (sym more) (λ place l at. elim (last_or_before old list l place at) [ inl before ↦ all place l before | inr last ↦ subst (All (IsNodeAt store layer)) (sym last.1) one ])
    ]

pub grows_none : (store : Store) (layer : ℕ) (lists : List (List Node)) → ListsAt store layer lists → Grows store layer lists lists
grows_none store layer lists h = record { more = []; new_is = sym (append-nil lists); lists_at = h }

-- a step stays one
step_later : (store : Store) (layer : ℕ) (sets : List Node) (value : ℕ) (old more new : List (List Node)) (step : Step) → new ≡ old ++ more → IsStep store layer sets value old step → IsStep store layer sets value new step
step_later store layer sets value old more new step new_is h = record {
  rest = h.rest;
  stands = subst (λ l. slice_get l step.list ≡ Some h.rest) (sym new_is) (still old more step.list h.rest h.stands);
  count = h.count;
}

pub steps_later : (store : Store) (layer : ℕ) (sets : List Node) (old new : List (List Node)) (steps : Steps) → Grows store (layer + 1) old new → HasSteps store layer sets old steps → HasSteps store layer sets new steps
steps_later store layer sets old new steps grows h = record {
  count = h.count;
  each = λ value step at. step_later store layer sets value old grows.more new step grows.new_is (h.each value step at);
}

-- the steps for the first values
pub record Stepped (store : Store) (layer : ℕ) (sets : List Node) (count : ℕ) (old below : List (List Node)) (steps : List Step) : Type 0 where
  pub count_is : length steps ≡ count
  pub each : (value : ℕ) (step : Step) → slice_get steps value ≡ Some step → IsStep store layer sets value below step
  pub grows : Grows store (layer + 1) old below

pub stepped_none : (store : Store) (layer : ℕ) (sets : List Node) (below : List (List Node)) → ListsAt store (layer + 1) below → Stepped store layer sets 0 below below []
stepped_none store layer sets below h = record { count_is = refl; each = λ value step at. absurd cc; grows = grows_none store (layer + 1) below h }

-- lists with one more of the layer
pub grows_with : (store : Store) (layer : ℕ) (old new : List (List Node)) (list : List Node) → ListsAt store layer old → All (IsNodeAt store layer) list → IsWith old list new → Grows store layer old new
grows_with store layer old new list h nodes is_with = let more = grown old new list is_with in record {
  more = more.0;
  new_is = more.1;
  lists_at = with_lists_at store layer old new list is_with h nodes;
}

-- one value more
pub stepped_more : (store : Store) (layer : ℕ) (sets : List Node) (count : ℕ) (old below new : List (List Node)) (steps : List Step) (step : Step) → Stepped store layer sets count old below steps → IsStep store layer sets count new step → Grows store (layer + 1) below new →
    Stepped store layer sets (count + 1) old new (steps ++ step ∷ [])
stepped_more store layer sets count old below new steps step h is_step grows = record {
  count_is = length_push steps step ∙ ap (λ n. n + 1) h.count_is;
  each = λ value s at. elim (last_or_before steps step s value at) [
    | inl before ↦ step_later store layer sets value below grows.more new s grows.new_is (h.each value s before)
    | inr last ↦
        let here : value ≡ count = last.0 ∙ h.count_is in
        subst (λ v. IsStep store layer sets v new s) (sym here) (subst (IsStep store layer sets count new) (sym last.1) is_step)
  ];
  grows = record {
    more = h.grows.more ++ grows.more;
    new_is = grows.new_is ∙ ap (λ l. l ++ grows.more) h.grows.new_is ∙ append_assoc old h.grows.more grows.more;
    lists_at = grows.lists_at;
  };
}

-- the first lists have their steps
pub record AllStepped (store : Store) (layer : ℕ) (lists : List (List Node)) (count : ℕ) (below : List (List Node)) (steps : List Steps) : Type 0 where
  pub count_is : length steps ≡ count
  pub each : (place : ℕ) (sets : List Node) (of_list : Steps) → slice_get lists place ≡ Some sets → slice_get steps place ≡ Some of_list → HasSteps store layer sets below of_list
  pub lists_at : ListsAt store (layer + 1) below

pub all_stepped_none : (store : Store) (layer : ℕ) (lists below : List (List Node)) → ListsAt store (layer + 1) below → AllStepped store layer lists 0 below []
all_stepped_none store layer lists below h = record { count_is = refl; each = λ place sets of_list at here. absurd cc; lists_at = h }

-- one list more
pub all_stepped_more : (store : Store) (layer : ℕ) (lists : List (List Node)) (count : ℕ) (below new : List (List Node)) (steps : List Steps) (one : Steps) (sets : List Node) → AllStepped store layer lists count below steps → sets ≡ get_or lists count [] → HasSteps store layer sets new one → Grows store (layer + 1) below new →
    AllStepped store layer lists (count + 1) new (steps ++ one ∷ [])
all_stepped_more store layer lists count below new steps one sets h read has grows = record {
  count_is = length_push steps one ∙ ap (λ n. n + 1) h.count_is;
  each = λ place list of_list at here. elim (last_or_before steps one of_list place here) [
    | inl before ↦ steps_later store layer list below new of_list grows (h.each place list of_list at before)
    | inr last ↦
        let same : sets ≡ list = read ∙ ap (λ n. get_or lists n []) (sym (last.0 ∙ h.count_is)) ∙ get_or_from_slice_get lists place list [] at in
        subst (λ s. HasSteps store layer s new of_list) same (subst (HasSteps store layer sets new) (sym last.1) has)
  ];
  lists_at = grows.lists_at;
}
