-- The least of a cost over the words that fit, by the labels and the fronts of the root.
use Rattle.std.proofs.Common.{◌≡◌, ℕ, zero, suc, true, false, ℤ, ◌≤ℤ◌, List, length, slice_index_or, Option, Some, None, option_map, refl, sym, ap, ◌∙◌, subst, arith}
use Rattle.std.proofs.lemmas.Int.{ints}
use Rattle.pc_diagram.specs.declared.bounds.Bounds.{Bounds}
use Rattle.pc_diagram.specs.declared.choice.Choice.{Choice}
use Rattle.pc_diagram.specs.declared.costs.CostPair.{CostPair}
use Rattle.pc_diagram.specs.declared.raw_diagram.RawDiagram.{RawDiagram}
use Rattle.pc_diagram.specs.declared.side.Side.TheVariants.{Tails}
use Rattle.pc_diagram.specs.declared.which.Which.{Which}
use Rattle.pc_diagram.specs.declared.which.Which.TheVariants.{First}
use Rattle.pc_diagram.specs.Bounds.{allows_pair}
use Rattle.pc_diagram.specs.Costs.{part}
use Rattle.pc_diagram.specs.Diagram.{IsCanonical}
use Rattle.pc_diagram.specs.Fitting.{fitting}
use Rattle.pc_diagram.specs.Least.{least_cost}
use Rattle.pc_diagram.specs.Paths.{words}
use Rattle.pc_labels.specs.declared.label.Label.{Label}
use Rattle.pc_labels.specs.Kept.{Kept, KeptPaths, kept_at, label}
use Rattle.pc_labels.specs.Labels.{AreTails}
use Rattle.pc_pareto.specs.declared.front_item.FrontItem.{FrontItem}
use Rattle.pc_pareto.specs.declared.fronts.Fronts.{Fronts}
use Rattle.pc_pareto.specs.Fronts.{items_at, no_item}
use Rattle.pc_pareto.specs.FrontsView.{IsFrontsOf, distance_of, stages_of}
use Rattle.pc_pareto.specs.Items.{pair_of}
use Rattle.pc_domains.specs.FrontPaths.{kept_by_fronts, kept_item}
use Rattle.pc_domains.specs.LabelPaths.{kept_by_labels}
use Rattle.pc_domains.specs.Least.{IsLeastItem, item_cost}
use Rattle.pc_domains.specs.Orders.{IsAtMost, IsNoDearer}
use Rattle.pc_domains.specs.Sides.{AreDistinctOf}
use Rattle.pc_domains.proofs.EndLemmas.{root_distance}
use Rattle.pc_domains.proofs.FrontListedLemmas as listed
use Rattle.pc_domains.proofs.FrontSides.{fronts_of_root}
use Rattle.pc_domains.proofs.LabelPathLemmas.{labels_of_root}
use Rattle.pc_domains.proofs.LeastLemmas.{least_kept, none_kept}
use Rattle.pc_domains.proofs.OrderLemmas.{at_most_adds_up, at_most_downward, at_most_part, no_dearer_adds_up, no_dearer_downward, no_dearer_first}

same_kept : (k l : Kept) → Some k ≡ Some l → k ≡ l
same_kept k l h = cc

pair_is : (pair : CostPair) (l : Label) → pair.first ≡ l.first → pair.second ≡ l.second → pair ≡ record { first = l.first; second = l.second }
pair_is pair l first second = ap (λ z. record { first = z; second = pair.second }) first ∙ ap (λ z. record { first = l.first; second = z }) second

module _ (raw : RawDiagram) (canonical : IsCanonical raw) (costs : List (List CostPair)) (choices : List Choice) (bounds : Bounds) (are : AreDistinctOf raw.domains choices) where
  abbrev pub fitted : List (List ℕ)
  fitted = fitting costs (words raw) choices bounds

  module _ (alone : bounds.second ≡ None) (labels : KeptPaths) (tails : AreTails raw choices costs labels) where
    none_past : ((k : Kept) → kept_at labels 0 0 ≡ Some k → allows_pair bounds k.pair ≡ false) → least_cost First costs fitted ≡ None
    none_past none =
        none_kept raw costs choices bounds are.distinct are.choices_of IsNoDearer no_dearer_adds_up (no_dearer_downward bounds alone) (kept_by_labels labels 0) (labels_of_root raw costs choices canonical labels tails) First no_dearer_first each
      where
        each : (place : ℕ) (k : Kept) → kept_by_labels labels 0 0 place ≡ Some k → allows_pair bounds k.pair ≡ false
        each zero k is = none k is
        each (suc place) k is = absurd cc

    -- where the root has no label
    pub label_none : option_map label (kept_at labels 0 0) ≡ None → None ≡ least_cost First costs fitted
    label_none h = sym (none_past (by (kept_at labels 0 0) h))
      where
        by : (o : Option Kept) → option_map label o ≡ None → (k : Kept) → o ≡ Some k → allows_pair bounds k.pair ≡ false
        by None e k is = absurd cc
        by (Some l) e k is = absurd cc

    pair_of_label : (o : Option Kept) (l : Label) → option_map label o ≡ Some l → (k : Kept) → o ≡ Some k → k.pair ≡ record { first = l.first; second = l.second }
    pair_of_label None l e k is = absurd cc
    pair_of_label (Some other) l e k is =
        let same : label other ≡ l = cc in
        ap (λ (x : Kept). x.pair) (sym (same_kept other k is)) ∙ ap (λ (x : Label). record { first = x.first; second = x.second }) same

    -- where the bound doesn't allow it
    pub label_past : (l : Label) → option_map label (kept_at labels 0 0) ≡ Some l → (pair : CostPair) → pair.first ≡ l.first → pair.second ≡ l.second → allows_pair bounds pair ≡ false → None ≡ least_cost First costs fitted
    label_past l h pair first second past = sym (none_past (λ k is. ap (allows_pair bounds) (pair_of_label (kept_at labels 0 0) l h k is ∙ sym (pair_is pair l first second)) ∙ past))

    -- where it does
    pub label_least : (l : Label) → option_map label (kept_at labels 0 0) ≡ Some l → (pair : CostPair) → pair.first ≡ l.first → pair.second ≡ l.second → allows_pair bounds pair ≡ true → (cost : ℤ) → cost ≡ l.first → Some cost ≡ least_cost First costs fitted
    label_least l h pair first second within cost cost_is = ap Some cost_is ∙ by (kept_at labels 0 0) refl h
      where
        allowed : allows_pair bounds (record { first = l.first; second = l.second }) ≡ true
        allowed = ap (allows_pair bounds) (sym (pair_is pair l first second)) ∙ within

        by : (o : Option Kept) → kept_at labels 0 0 ≡ o → option_map label o ≡ Some l → Some l.first ≡ least_cost First costs fitted
        by None e k = absurd cc
        by (Some kept) e k =
            let its = pair_of_label (Some kept) l k kept refl in
            sym (least_kept raw costs choices bounds are.distinct are.choices_of IsNoDearer no_dearer_adds_up (no_dearer_downward bounds alone) (kept_by_labels labels 0) (labels_of_root raw costs choices canonical labels tails) First no_dearer_first
            zero kept e (ap (allows_pair bounds) its ∙ allowed) (only e) ∙ ap (λ (p : CostPair). Some p.first) its)
          where
            itself : (z : ℤ) → z ≤ℤ z
            itself z = omega (arith, ints)

            only : kept_at labels 0 0 ≡ Some kept → (other : ℕ) (m : Kept) → kept_by_labels labels 0 0 other ≡ Some m → allows_pair bounds m.pair ≡ true → kept.pair.first ≤ℤ m.pair.first
            only e zero m is within = subst (λ (x : Kept). kept.pair.first ≤ℤ x.pair.first) (same_kept kept m (sym e ∙ is)) (itself kept.pair.first)
            only e (suc other) m is within = absurd cc

  module _ (fronts : Fronts) (is : IsFrontsOf Tails raw costs choices fronts) (which : Which) where
    abbrev pub root_items : List FrontItem
    root_items = items_at (stages_of fronts) (length raw.domains) 0

    by_place : (o : Option ℤ) → IsLeastItem bounds which root_items (length root_items) o → o ≡ least_cost which costs fitted
    by_place None none =
        sym (none_kept raw costs choices bounds are.distinct are.choices_of IsAtMost at_most_adds_up (at_most_downward bounds) (kept_by_fronts Tails (stages_of fronts) (length raw.domains)) (fronts_of_root raw costs choices canonical (stages_of fronts) is.are) which (at_most_part which)
        (λ place k e. let its = listed.kept_at Tails (stages_of fronts) (length raw.domains) 0 place k e in ap (λ (x : Kept). allows_pair bounds x.pair) (sym its.is) ∙ none place its.inside))
    by_place (Some cost) least =
        ap Some least.is
        ∙ sym (least_kept raw costs choices bounds are.distinct are.choices_of IsAtMost at_most_adds_up (at_most_downward bounds) (kept_by_fronts Tails (stages_of fronts) (length raw.domains)) (fronts_of_root raw costs choices canonical (stages_of fronts) is.are) which (at_most_part which)
        least.place (kept_item Tails (stages_of fronts) (length raw.domains) (slice_index_or root_items least.place no_item))
        (ap (option_map (kept_item Tails (stages_of fronts) (length raw.domains))) (listed.at_place root_items least.place least.inside)) least.within
        (λ other l e allowed. let its = listed.kept_at Tails (stages_of fronts) (length raw.domains) 0 other l e in
        subst (λ (x : Kept). part which (pair_of (slice_index_or root_items least.place no_item)) ≤ℤ part which x.pair) its.is
        (subst (λ z. z ≤ℤ item_cost which root_items other) least.is (least.least other its.inside (ap (λ (x : Kept). allows_pair bounds x.pair) its.is ∙ allowed)))))

    -- the least item of the root's front
    pub front_least : (o : Option ℤ) → IsLeastItem bounds which (items_at (stages_of fronts) (distance_of fronts 0) 0) (length (items_at (stages_of fronts) (distance_of fronts 0) 0)) o → o ≡ least_cost which costs fitted
    front_least o least =
        by_place o (subst (λ d. IsLeastItem bounds which (items_at (stages_of fronts) d 0) (length (items_at (stages_of fronts) d 0)) o) (root_distance raw canonical costs choices fronts is) least)
