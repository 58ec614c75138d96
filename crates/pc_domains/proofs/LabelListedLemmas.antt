-- What is listed of a value is the word of the least way by the labels of both ends, if the bounds allow it.
use Rattle.std.proofs.Common.{◌≡◌, ℕ, zero, suc, ◌+◌, ◌<◌, true, false, not, Bool, ◌&&◌, ◌||◌, nat_lt, List, ◌∷◌, ◌++◌, length, drop, get_or, Option, Some, None, IfSome, IsSome, is_some, option_map, ℤ, refl, sym, ap, subst, ◌∙◌, arith}
use Rattle.std.proofs.lemmas.Bool.{both_ways}
use Rattle.pc_diagram.specs.declared.bounds.Bounds.{Bounds}
use Rattle.pc_diagram.specs.declared.choice.Choice.{Choice}
use Rattle.pc_diagram.specs.declared.costs.CostPair.{CostPair}
use Rattle.pc_diagram.specs.declared.raw_diagram.RawDiagram.{RawDiagram}
use Rattle.pc_diagram.specs.declared.weight.Ranked.{Ranked}
use Rattle.pc_diagram.specs.declared.which.Which.TheVariants.{First, Second}
use Rattle.pc_diagram.specs.Bounds.{allows_pair}
use Rattle.pc_diagram.specs.Choices.{value_of}
use Rattle.pc_diagram.specs.Costs.{IsPriced, cost, cost_pair, is_cheaper}
use Rattle.pc_diagram.specs.Diagram.{IsCanonical}
use Rattle.pc_diagram.specs.Listing.{listed}
use Rattle.pc_diagram.specs.NodePaths.{AreCostsOf, is_allowed}
use Rattle.pc_labels.specs.Kept.{Kept, KeptPaths, kept_at, path_of, weight}
use Rattle.pc_labels.specs.Labels.{AreHeads, AreTails}
use Rattle.pc_domains.specs.declared.label_way.LabelWay.{LabelWay}
use Rattle.pc_domains.specs.Joins.{IsSumPair, is_less}
use Rattle.pc_domains.specs.LabelPaths.{kept_by_labels}
use Rattle.pc_domains.specs.ListedWays.{IsListedByLabels}
use Rattle.pc_domains.specs.LabelWays.{AreLinkable, AreSummedLabels, IsLeastLabelWay, linked, linked_at, linked_over, word_of_label_way}
use Rattle.pc_domains.specs.Orders.{IsNoDearer}
use Rattle.pc_domains.specs.Sides.{AreSides, IsAsked, IsLeastWay, listed_of, price_of}
use Rattle.pc_domains.specs.Ways.{Way, joined_pair, joined_word}
use Rattle.pc_domains.proofs.JoinableLemmas.{priced_rest, sums_of}
use Rattle.pc_domains.proofs.LabelPathLemmas.{labels_are_sides}
use Rattle.pc_domains.proofs.LabelWayLemmas.{none_some}
use Rattle.pc_domains.proofs.ListedLemmas.{least_listed, none_allowed}
use Rattle.pc_domains.proofs.OrderLemmas.{no_dearer_adds_up, no_dearer_downward}
use Rattle.pc_domains.proofs.WayLemmas.{way_costs}

-- ---- labels on either side of a variable

summed : (costs : List (List CostPair)) (o : Option Kept) → IsPriced costs → IfSome o (λ k. k.pair ≡ cost_pair costs k.path) → IfSome (option_map weight o) (λ r. IsSumPair r.pair)
summed costs None priced h = tt
summed costs (Some k) priced h = subst IsSumPair (sym h) (sums_of costs k.path priced)

pub tails_summed : (raw : RawDiagram) (costs : List (List CostPair)) (choices : List Choice) (variable : ℕ) (after : KeptPaths) → AreCostsOf raw.domains costs → variable < length raw.domains → AreTails raw choices costs after
    → AreSummedLabels (length raw.domains + 1) (variable + 1) (get_or raw.sizes (variable + 1) 0) after
tails_summed raw costs choices variable after costs_of inside are_tails =
    let t = are_tails.labelled (variable + 1) (omega arith) in
    record { layers_are = are_tails.layers; nodes = t.nodes; sums = λ node lt. summed (drop (variable + 1) costs) (kept_at after (variable + 1) node) (priced_rest costs (variable + 1) costs_of.priced) (t.priced node lt) }

pub linkable : (raw : RawDiagram) (costs : List (List CostPair)) (choices : List Choice) (variable : ℕ) (before after : KeptPaths) → IsCanonical raw → AreCostsOf raw.domains costs → variable < length raw.domains → AreHeads raw choices costs before → AreTails raw choices costs after → AreLinkable raw variable before after
linkable raw costs choices variable before after canonical costs_of inside are_heads are_tails =
    let h = are_heads.labelled variable (omega arith) in
    record {
      canonical = canonical;
      before = record { layers_are = are_heads.layers; nodes = h.nodes; sums = λ node lt. summed costs (kept_at before variable node) costs_of.priced (h.priced node lt) };
      after = tails_summed raw costs choices variable after costs_of inside are_tails;
    }

-- ---- the two paths of what is linked

record Linked (price : CostPair) (head_kept tail_kept : Option Kept) (r : Ranked) : Type 0 where
  head : Kept
  tail : Kept
  head_is : head_kept ≡ Some head
  tail_is : tail_kept ≡ Some tail
  ranked_is : r ≡ record { pair = joined_pair price head tail; rank = head.rank }

unlink : (price : CostPair) (head_kept tail_kept : Option Kept) (r : Ranked) → linked price (option_map weight head_kept) (option_map weight tail_kept) ≡ Some r → Linked price head_kept tail_kept r
unlink price None tail_kept r e = absurd cc
unlink price (Some h) None r e = absurd cc
unlink price (Some h) (Some t) r e = let same : record { pair = joined_pair price h t; rank = h.rank } ≡ r = cc in record { head = h; tail = t; head_is = refl; tail_is = refl; ranked_is = sym same }

module _ (raw : RawDiagram) (costs : List (List CostPair)) (choices : List Choice) (bounds : Bounds) (variable value : ℕ) (asked : IsAsked raw costs choices variable value) (alone : bounds.second ≡ None)
    (before after : KeptPaths) (are_heads : AreHeads raw choices costs before) (are_tails : AreTails raw choices costs after) (allowed : is_allowed (value_of choices variable) value ≡ true) where
  abbrev AWay : Type 0
  AWay = Way raw variable value (kept_by_labels before variable) (kept_by_labels after (variable + 1))

  sides : AreSides IsNoDearer raw costs choices variable (kept_by_labels before variable) (kept_by_labels after (variable + 1))
  sides = labels_are_sides raw costs choices before after variable asked.variable_inside are_heads are_tails

  only_first : (labels : KeptPaths) (layer node place : ℕ) (k : Kept) → kept_by_labels labels layer node place ≡ Some k → kept_at labels layer node ≡ Some k
  only_first labels layer node zero k is = is
  only_first labels layer node (suc place) k is = absurd cc

  -- what is linked over the edge of a way
  way_linked : (way : AWay) → linked_at raw before after (price_of costs variable value) variable value way.node ≡ Some (record { pair = joined_pair (price_of costs variable value) way.head way.tail; rank = way.head.rank })
  way_linked way =
      ap (linked_over before after (price_of costs variable value) variable way.node) way.leads
      ∙ ap (λ o. linked (price_of costs variable value) (option_map weight o) (option_map weight (kept_at after (variable + 1) way.target))) (only_first before variable way.node way.head_place way.head way.head_is)
      ∙ ap (λ o. linked (price_of costs variable value) (Some (weight way.head)) (option_map weight o)) (only_first after (variable + 1) way.target way.tail_place way.tail way.tail_is)

  -- where nothing is linked, the value isn't listed
  pub label_unlinked : IsLeastLabelWay raw variable value before after (price_of costs variable value) (get_or raw.sizes variable 0) None → listed_of raw costs choices bounds variable value ≡ None
  label_unlinked none = none_allowed raw costs choices bounds variable value asked IsNoDearer no_dearer_adds_up (no_dearer_downward bounds alone) (kept_by_labels before variable) (kept_by_labels after (variable + 1)) sides allowed
      (λ way fits. none_some (linked_at raw before after (price_of costs variable value) variable value way.node) _ (none way.node way.inside) (way_linked way))

  module _ (best : LabelWay) (least : IsLeastLabelWay raw variable value before after (price_of costs variable value) (get_or raw.sizes variable 0) (Some best)) where
    its : Linked (price_of costs variable value) (kept_at before variable best.node) (kept_at after (variable + 1) best.target) best.ranked
    its = unlink (price_of costs variable value) (kept_at before variable best.node) (kept_at after (variable + 1) best.target) best.ranked
        (sym (ap (linked_over before after (price_of costs variable value) variable best.node) least.leads) ∙ least.is)

    the_way : AWay
    the_way = record {
      node = best.node;
      target = best.target;
      head_place = zero;
      tail_place = zero;
      head = its.head;
      tail = its.tail;
      inside = least.inside;
      leads = least.leads;
      head_is = its.head_is;
      tail_is = its.tail_is;
    }

    -- both paths are kept
    pub both_kept : IsSome (kept_at before variable best.node) × IsSome (kept_at after (variable + 1) best.target)
    both_kept = (ap is_some its.head_is, ap is_some its.tail_is)

    no_less : (other : AWay) → is_less (record { pair = joined_pair (price_of costs variable value) other.head other.tail; rank = other.head.rank }) (record { pair = joined_pair (price_of costs variable value) its.head its.tail; rank = its.head.rank }) ≡ false
    no_less other =
        ap (is_less (record { pair = joined_pair (price_of costs variable value) other.head other.tail; rank = other.head.rank })) (sym its.ranked_is)
        ∙ least.least other.node (record { pair = joined_pair (price_of costs variable value) other.head other.tail; rank = other.head.rank }) other.inside (way_linked other)

    no_cheaper : (a b : Ranked) → is_less a b ≡ false → is_cheaper a.pair b.pair ≡ false
    no_cheaper a b h = by (is_cheaper a.pair b.pair) h
      where
        by : (p : Bool) → (p || (not (is_cheaper b.pair a.pair) && nat_lt a.rank b.rank)) ≡ false → p ≡ false
        by true e = absurd cc
        by false e = refl

    -- past the bound nothing is listed
    pub label_past : allows_pair bounds best.ranked.pair ≡ false → listed_of raw costs choices bounds variable value ≡ None
    label_past past = none_allowed raw costs choices bounds variable value asked IsNoDearer no_dearer_adds_up (no_dearer_downward bounds alone) (kept_by_labels before variable) (kept_by_labels after (variable + 1)) sides allowed
        (λ way fits.
        both_ways (allows_pair bounds best.ranked.pair) past
        (ap (λ (r : Ranked). allows_pair bounds r.pair) its.ranked_is
        ∙ no_dearer_downward bounds alone (joined_pair (price_of costs variable value) its.head its.tail) (joined_pair (price_of costs variable value) way.head way.tail)
        (no_cheaper (record { pair = joined_pair (price_of costs variable value) way.head way.tail; rank = way.head.rank }) (record { pair = joined_pair (price_of costs variable value) its.head its.tail; rank = its.head.rank }) (no_less way)) fits))

    module _ (within : allows_pair bounds best.ranked.pair ≡ true) where
      is_least : IsLeastWay raw costs bounds variable value (kept_by_labels before variable) (kept_by_labels after (variable + 1)) the_way
      unfolding the_way
      is_least = record { allowed = ap (λ (r : Ranked). allows_pair bounds r.pair) (sym its.ranked_is) ∙ within; least = λ other fits. no_less other }

      word_is : joined_word value the_way.head the_way.tail ≡ word_of_label_way before after variable value best
      unfolding the_way
      word_is =
          ap (λ o. path_of o ++ value ∷ its.tail.path) (sym its.head_is)
          ∙ ap (λ o. path_of (kept_at before variable best.node) ++ value ∷ path_of o) (sym its.tail_is)

      label_listed : listed_of raw costs choices bounds variable value ≡ Some (listed costs value (word_of_label_way before after variable value best))
      label_listed =
          least_listed raw costs choices bounds variable value asked IsNoDearer no_dearer_adds_up (no_dearer_downward bounds alone) (kept_by_labels before variable) (kept_by_labels after (variable + 1)) sides allowed the_way is_least
          ∙ ap (λ w. Some (listed costs value w)) word_is

      label_costs : cost_pair costs (word_of_label_way before after variable value best) ≡ best.ranked.pair
      unfolding the_way
      label_costs =
          ap (cost_pair costs) (sym word_is)
          ∙ way_costs IsNoDearer no_dearer_adds_up (allows_pair bounds) (no_dearer_downward bounds alone) raw asked.canonical choices costs asked.costs_of variable value asked.variable_inside asked.value_inside allowed
          (kept_by_labels before variable) (kept_by_labels after (variable + 1)) sides.before sides.after the_way
          ∙ ap (λ (r : Ranked). r.pair) (sym its.ranked_is)

      -- an item of this word and these costs is what is listed
      pub label_item : (first second : ℤ) (word : List ℕ) → first ≡ best.ranked.pair.first → second ≡ best.ranked.pair.second → word ≡ word_of_label_way before after variable value best
          → Some (record { value = value; first = first; second = second; word = word }) ≡ listed_of raw costs choices bounds variable value
      label_item first second word first_is second_is is =
          let one : first ≡ cost costs First (word_of_label_way before after variable value best) = first_is ∙ ap (λ (p : CostPair). p.first) (sym label_costs) in
          let two : second ≡ cost costs Second (word_of_label_way before after variable value best) = second_is ∙ ap (λ (p : CostPair). p.second) (sym label_costs) in
          ap (λ z. Some (record { value = value; first = z; second = second; word = word })) one
          ∙ ap (λ z. Some (record { value = value; first = cost costs First (word_of_label_way before after variable value best); second = z; word = word })) two
          ∙ ap (λ w. Some (record { value = value; first = cost costs First (word_of_label_way before after variable value best); second = cost costs Second (word_of_label_way before after variable value best); word = w })) is
          ∙ sym label_listed

  -- a least way that the bound allows tells what is listed
  pub label_tells : (way : LabelWay) → IsLeastLabelWay raw variable value before after (price_of costs variable value) (get_or raw.sizes variable 0) (Some way) → allows_pair bounds way.ranked.pair ≡ true
      → IsListedByLabels (listed_of raw costs choices bounds variable value) before after variable value way
  label_tells way least fits = record {
    head = (both_kept way least).0;
    tail = (both_kept way least).1;
    is = label_item way least fits way.ranked.pair.first way.ranked.pair.second (word_of_label_way before after variable value way) refl refl refl;
  }
