-- What the ends of a board tell: whether they are labels or fronts, and by the root's whether some word fits.
use Rattle.std.proofs.Common.{◌≡◌, ◌≢◌, ℕ, zero, suc, ◌-◌, ◌+◌, Bool, true, false, ◌||◌, List, [], ◌∷◌, length, Option, Some, None, ℤ, slice_get, Contains, option_map, refl, sym, ap, ◌∙◌, subst, arith}
use Rattle.std.specs.Prelude.{slice_index, slice_index_or}
use Rattle.std.specs.List.{list_any}
use Rattle.pc_diagram.specs.declared.bounds.Bounds.{Bounds}
use Rattle.pc_diagram.specs.declared.choice.Choice.{Choice}
use Rattle.pc_diagram.specs.declared.costs.CostPair.{CostPair}
use Rattle.pc_diagram.specs.declared.raw_diagram.RawDiagram.{RawDiagram}
use Rattle.pc_diagram.specs.declared.side.Side.{Side}
use Rattle.pc_diagram.specs.declared.side.Side.TheVariants.{Tails}
use Rattle.pc_diagram.specs.Bounds.{allows_pair}
use Rattle.pc_diagram.specs.Diagram.{IsCanonical}
use Rattle.pc_diagram.specs.Fitting.{fitting}
use Rattle.pc_diagram.specs.Paths.{words}
use Rattle.pc_labels.specs.Kept.{Kept, KeptPaths, kept_at}
use Rattle.pc_labels.specs.Labels.{AreTails}
use Rattle.pc_pareto.specs.declared.front_item.FrontItem.{FrontItem}
use Rattle.pc_pareto.specs.declared.fronts.Fronts.{Fronts}
use Rattle.pc_pareto.specs.Fronts.{items_at, layer_at}
use Rattle.pc_pareto.specs.FrontsView.{IsFrontsOf, distance_of, stages_of}
use Rattle.pc_pareto.specs.Items.{pair_of}
use Rattle.pc_domains.specs.declared.ends.Ends.{Ends}
use Rattle.pc_domains.specs.declared.ends.Ends.TheVariants.{Least, Pairs}
use Rattle.pc_domains.specs.Ends.{AreLabelsOf, HasRoot, IsEndOf, is_within, root_is_within}
use Rattle.pc_domains.specs.FrontPaths.{kept_by_fronts, kept_item}
use Rattle.pc_domains.specs.LabelPaths.{kept_by_labels}
use Rattle.pc_domains.specs.Orders.{IsAtMost, IsNoDearer}
use Rattle.pc_domains.specs.Sides.{AreDistinctOf}
use Rattle.pc_domains.proofs.FitLemmas.{none_fits, root_fits}
use Rattle.pc_domains.proofs.FrontSides.{fronts_of_root}
use Rattle.pc_domains.proofs.LabelPathLemmas.{labels_of_root}
use Rattle.pc_domains.proofs.OrderLemmas.{at_most_adds_up, at_most_downward, no_dearer_adds_up, no_dearer_downward}

module _ (side : Side) (raw : RawDiagram) (costs : List (List CostPair)) (choices : List Choice) where
  pub labels_of : (second : Option ℤ) (labels : KeptPaths) → IsEndOf side raw costs choices second (Least labels) → AreLabelsOf side raw costs choices labels
  labels_of None labels is = is
  labels_of (Some bound) labels is = absurd is

  pub labels_alone : (second : Option ℤ) (labels : KeptPaths) → IsEndOf side raw costs choices second (Least labels) → second ≡ None
  labels_alone None labels is = refl
  labels_alone (Some bound) labels is = absurd is

  pub fronts_of : (second : Option ℤ) (fronts : Fronts) → IsEndOf side raw costs choices second (Pairs fronts) → IsFrontsOf side raw costs choices fronts
  fronts_of None fronts is = absurd is
  fronts_of (Some bound) fronts is = is

found : {X : Type 0} (test : X → Bool) (items : List X) → list_any test items ≡ true → (place : ℕ) × (item : X) × (slice_get items place ≡ Some item) × (test item ≡ true)
found test [] h = absurd cc
found test (x ∷ items) h = by (test x) refl h (found test items)
  where
    by : (b : Bool) → test x ≡ b → (b || list_any test items) ≡ true → (list_any test items ≡ true → (place : ℕ) × (item : _) × (slice_get items place ≡ Some item) × (test item ≡ true))
        → (place : ℕ) × (item : _) × (slice_get (x ∷ items) place ≡ Some item) × (test item ≡ true)
    by true e k rest = (0, x, refl, e)
    by false e k rest = let its = rest k in (suc its.0, its.1, its.2, its.3)

unfound : {X : Type 0} (test : X → Bool) (items : List X) → list_any test items ≡ false → (place : ℕ) (item : X) → slice_get items place ≡ Some item → test item ≡ false
unfound test [] h place item is = absurd cc
unfound test (x ∷ items) h place item is = by (test x) refl h place is (unfound test items)
  where
    by : (b : Bool) → test x ≡ b → (b || list_any test items) ≡ false → (p : ℕ) → slice_get (x ∷ items) p ≡ Some item
        → (list_any test items ≡ false → (q : ℕ) (i : _) → slice_get items q ≡ Some i → test i ≡ false) → test item ≡ false
    by true e k p is rest = absurd cc
    by false e k zero is rest = ap test (sym (same is)) ∙ e
      where
        same : Some x ≡ Some item → x ≡ item
        same cc_is = cc
    by false e k (suc p) is rest = rest k p item is

module _ (raw : RawDiagram) (canonical : IsCanonical raw) (costs : List (List CostPair)) (choices : List Choice) where
  pub root_distance : (fronts : Fronts) → IsFrontsOf Tails raw costs choices fronts → distance_of fronts 0 ≡ length raw.domains
  root_distance fronts is =
      let many : length (stages_of fronts) ≡ length raw.domains + 1 = is.are.layers in
      let far : (length (stages_of fronts) - 1) - 0 ≡ length raw.domains = omega (arith, many) in
      ap (λ s. layer_at s (length (stages_of fronts) - 1) 0) is.side_is ∙ far

  -- the tails have a root
  pub tails_root : (second : Option ℤ) (ends : Ends) → IsEndOf Tails raw costs choices second ends → HasRoot ends
  tails_root None (Least labels) is =
      let row : length (slice_index_or labels.layers 0 []) ≡ slice_index raw.sizes 0 = (is.labelled 0 (omega arith)).nodes in
      (omega (arith, is.layers), omega (arith, row, canonical.shape.root))
  tails_root None (Pairs fronts) is = absurd is
  tails_root (Some bound) (Least labels) is = absurd is
  tails_root (Some bound) (Pairs fronts) is =
      let far = root_distance fronts is in
      let none : length raw.domains - length raw.domains ≡ 0 = omega arith in
      let row : length (slice_index_or (stages_of fronts) (length raw.domains) []) ≡ slice_index raw.sizes (length raw.domains - length raw.domains) = is.are.nodes (length raw.domains) (omega arith) in
      (omega (arith, is.are.layers), omega (arith, ap (λ d. length (slice_index_or (stages_of fronts) d [])) far, row, ap (slice_index raw.sizes) none, canonical.shape.root))

  module _ (bounds : Bounds) (are : AreDistinctOf raw.domains choices) where
    some_word : (word : List ℕ) (all : List (List ℕ)) → Contains all word → all ≢ []
    some_word word all among none = let its = subst (λ l. Contains l word) none among in absurd (omega (arith, its.1))

    by_label : bounds.second ≡ None → (labels : KeptPaths) → AreTails raw choices costs labels → (kept : Option Kept) → kept_at labels 0 0 ≡ kept → is_within bounds kept ≡ true → fitting costs (words raw) choices bounds ≢ []
    by_label alone labels tails None e h = absurd cc
    by_label alone labels tails (Some k) e h =
        some_word k.path (fitting costs (words raw) choices bounds)
        (root_fits raw costs choices bounds are.distinct are.choices_of IsNoDearer no_dearer_adds_up (no_dearer_downward bounds alone) (kept_by_labels labels 0) (labels_of_root raw costs choices canonical labels tails) 0 k e h)

    no_label : bounds.second ≡ None → (labels : KeptPaths) → AreTails raw choices costs labels → is_within bounds (kept_at labels 0 0) ≡ false → fitting costs (words raw) choices bounds ≡ []
    no_label alone labels tails h =
        none_fits raw costs choices bounds are.distinct are.choices_of IsNoDearer no_dearer_adds_up (no_dearer_downward bounds alone) (kept_by_labels labels 0) (labels_of_root raw costs choices canonical labels tails) none
      where
        none : (place : ℕ) (k : Kept) → kept_by_labels labels 0 0 place ≡ Some k → allows_pair bounds k.pair ≡ false
        none zero k is = ap (is_within bounds) (sym is) ∙ h
        none (suc place) k is = absurd cc

    by_front : (fronts : Fronts) → IsFrontsOf Tails raw costs choices fronts → root_is_within bounds (Pairs fronts) ≡ true → fitting costs (words raw) choices bounds ≢ []
    by_front fronts is h =
        let stages = stages_of fronts in
        let at = ap (λ d. list_any (λ item. allows_pair bounds (pair_of item)) (items_at stages d 0)) (sym (root_distance fronts is)) ∙ h in
        let its = found (λ item. allows_pair bounds (pair_of item)) (items_at stages (length raw.domains) 0) at in
        let keeps = fronts_of_root raw costs choices canonical stages is.are in
        some_word _ (fitting costs (words raw) choices bounds)
        (root_fits raw costs choices bounds are.distinct are.choices_of IsAtMost at_most_adds_up (at_most_downward bounds) (kept_by_fronts Tails stages (length raw.domains)) keeps its.0 _ (ap (option_map (kept_item Tails stages (length raw.domains))) its.2) its.3)

    no_front : (fronts : Fronts) → IsFrontsOf Tails raw costs choices fronts → root_is_within bounds (Pairs fronts) ≡ false → fitting costs (words raw) choices bounds ≡ []
    no_front fronts is h =
        let stages = stages_of fronts in
        let at = ap (λ d. list_any (λ item. allows_pair bounds (pair_of item)) (items_at stages d 0)) (sym (root_distance fronts is)) ∙ h in
        none_fits raw costs choices bounds are.distinct are.choices_of IsAtMost at_most_adds_up (at_most_downward bounds) (kept_by_fronts Tails stages (length raw.domains)) (fronts_of_root raw costs choices canonical stages is.are)
        (λ place k e. none (slice_get (items_at stages (length raw.domains) 0) place) place k refl e (unfound (λ item. allows_pair bounds (pair_of item)) (items_at stages (length raw.domains) 0) at place))
      where
        none : (o : Option FrontItem) (place : ℕ) (k : Kept) → slice_get (items_at (stages_of fronts) (length raw.domains) 0) place ≡ o → option_map (kept_item Tails (stages_of fronts) (length raw.domains)) o ≡ Some k
            → ((item : FrontItem) → slice_get (items_at (stages_of fronts) (length raw.domains) 0) place ≡ Some item → allows_pair bounds (pair_of item) ≡ false) → allows_pair bounds k.pair ≡ false
        none None place k e is rest = absurd cc
        none (Some item) place k e is rest = ap (λ (x : Kept). allows_pair bounds x.pair) (sym (same_some is)) ∙ rest item e
          where
            same_some : Some (kept_item Tails (stages_of fronts) (length raw.domains) item) ≡ Some k → kept_item Tails (stages_of fronts) (length raw.domains) item ≡ k
            same_some cc_is = cc

    -- some word fits exactly where a kept path of the root is within the bounds
    pub some_fits : (ends : Ends) → IsEndOf Tails raw costs choices bounds.second ends → root_is_within bounds ends ≡ true → fitting costs (words raw) choices bounds ≢ []
    some_fits (Least labels) is h = by_label (labels_alone Tails raw costs choices bounds.second labels is) labels (labels_of Tails raw costs choices bounds.second labels is) (kept_at labels 0 0) refl h
    some_fits (Pairs fronts) is h = by_front fronts (fronts_of Tails raw costs choices bounds.second fronts is) h

    pub none_fit : (ends : Ends) → IsEndOf Tails raw costs choices bounds.second ends → root_is_within bounds ends ≡ false → fitting costs (words raw) choices bounds ≡ []
    none_fit (Least labels) is h = no_label (labels_alone Tails raw costs choices bounds.second labels is) labels (labels_of Tails raw costs choices bounds.second labels is) h
    none_fit (Pairs fronts) is h = no_front fronts (fronts_of Tails raw costs choices bounds.second fronts is) h
