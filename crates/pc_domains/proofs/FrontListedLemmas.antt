-- What is listed of a value is the word of the least way by the fronts of both ends.
use Rattle.std.proofs.Common.{◌≡◌, ℕ, zero, suc, ◌+◌, ◌<◌, true, List, [], ◌∷◌, ◌++◌, length, get_or, slice_index_or, slice_get, Option, Some, None, is_some, option_map, ℤ, refl, sym, ap, subst, ◌∙◌, arith}
use Rattle.pc_diagram.specs.declared.bounds.Bounds.{Bounds}
use Rattle.pc_diagram.specs.declared.choice.Choice.{Choice}
use Rattle.pc_diagram.specs.declared.costs.CostPair.{CostPair}
use Rattle.pc_diagram.specs.declared.raw_diagram.RawDiagram.{RawDiagram}
use Rattle.pc_diagram.specs.declared.side.Side.{Side}
use Rattle.pc_diagram.specs.declared.side.Side.TheVariants.{Heads, Tails}
use Rattle.pc_diagram.specs.declared.weight.Ranked.{Ranked}
use Rattle.pc_diagram.specs.declared.which.Which.TheVariants.{First, Second}
use Rattle.pc_diagram.specs.Bounds.{allows_pair}
use Rattle.pc_diagram.specs.Choices.{value_of}
use Rattle.pc_diagram.specs.Costs.{cost, cost_pair}
use Rattle.pc_diagram.specs.Listing.{listed}
use Rattle.pc_diagram.specs.NodePaths.{is_allowed}
use Rattle.pc_diagram.specs.Weight.{plus_pair}
use Rattle.pc_pareto.specs.declared.front_item.FrontItem.{FrontItem}
use Rattle.pc_pareto.specs.declared.fronts.Fronts.{Fronts}
use Rattle.pc_pareto.specs.Fronts.{items_at, no_item, word_at}
use Rattle.pc_pareto.specs.FrontsView.{IsFrontsOf, distance_of, side_of, stages_of}
use Rattle.pc_pareto.specs.Items.{pair_of}
use Rattle.pc_domains.specs.declared.front_way.FrontWay.{FrontWay}
use Rattle.pc_domains.specs.FrontPaths.{kept_by_fronts, kept_item}
use Rattle.pc_domains.specs.ListedWays.{TellsByFronts}
use Rattle.pc_domains.specs.FrontWays.{IsLeastFrontWay, IsOpenWay, front_of, word_of_way}
use Rattle.pc_domains.specs.Joins.{is_less, joined_at}
use Rattle.pc_domains.specs.Orders.{IsAtMost}
use Rattle.pc_domains.specs.Sides.{AreSides, IsAllowedWay, IsAsked, IsLeastWay, listed_of, price_of}
use Rattle.pc_domains.specs.Ways.{Kept, Way, joined_word}
use Rattle.pc_domains.proofs.FrontSides.{fronts_are_sides}
use Rattle.pc_domains.proofs.JoinableLemmas.{distance_is, joinable}
use Rattle.pc_domains.proofs.RangeLemmas.{edge_inside}
use Rattle.pc_domains.proofs.ListedLemmas.{least_listed, none_allowed}
use Rattle.pc_domains.proofs.OrderLemmas.{at_most_adds_up, at_most_downward}
use Rattle.pc_domains.proofs.WayLemmas.{way_costs}

-- an item at a place of a list

pub at_place : (items : List FrontItem) (place : ℕ) → place < length items → slice_get items place ≡ Some (slice_index_or items place no_item)
at_place [] place lt = absurd (omega arith)
at_place (item ∷ items) zero lt = refl
at_place (item ∷ items) (suc place) lt = at_place items place (omega arith)

record IsAt (items : List FrontItem) (place : ℕ) (item : FrontItem) : Type 0 where
  inside : place < length items
  is : slice_index_or items place no_item ≡ item

is_at : (items : List FrontItem) (place : ℕ) (item : FrontItem) → slice_get items place ≡ Some item → IsAt items place item
is_at [] place item e = absurd cc
is_at (first ∷ items) zero item e = record { inside = omega arith; is = cc }
is_at (first ∷ items) (suc place) item e = let its = is_at items place item e in record { inside = omega (arith, its.inside); is = its.is }

-- a kept path is that of the item at its place
pub record IsKeptAt (side : Side) (stages : List (List (List FrontItem))) (distance node place : ℕ) (k : Kept) : Type 0 where
  pub inside : place < length (items_at stages distance node)
  pub is : kept_item side stages distance (slice_index_or (items_at stages distance node) place no_item) ≡ k

pub kept_at : (side : Side) (stages : List (List (List FrontItem))) (distance node place : ℕ) (k : Kept) → kept_by_fronts side stages distance node place ≡ Some k → IsKeptAt side stages distance node place k
kept_at side stages distance node place k e = by (slice_get (items_at stages distance node) place) refl e
  where
    by : (o : Option FrontItem) → slice_get (items_at stages distance node) place ≡ o → option_map (kept_item side stages distance) o ≡ Some k → IsKeptAt side stages distance node place k
    by None f h = absurd cc
    by (Some item) f h =
        let its = is_at (items_at stages distance node) place item f in
        let same : kept_item side stages distance item ≡ k = cc in
        record { inside = its.inside; is = ap (kept_item side stages distance) its.is ∙ same }

module _ (raw : RawDiagram) (costs : List (List CostPair)) (choices : List Choice) (bounds : Bounds) (variable value : ℕ) (asked : IsAsked raw costs choices variable value) (heads tails : Fronts)
    (before : IsFrontsOf Heads raw costs choices heads) (after : IsFrontsOf Tails raw costs choices tails) (allowed : is_allowed (value_of choices variable) value ≡ true) where
  abbrev AWay : Type 0
  AWay = Way raw variable value (kept_by_fronts Heads (stages_of heads) (distance_of heads variable)) (kept_by_fronts Tails (stages_of tails) (distance_of tails (variable + 1)))

  sides : AreSides IsAtMost raw costs choices variable (kept_by_fronts Heads (stages_of heads) (distance_of heads variable)) (kept_by_fronts Tails (stages_of tails) (distance_of tails (variable + 1)))
  sides =
      subst (λ d. AreSides IsAtMost raw costs choices variable (kept_by_fronts Heads (stages_of heads) d) (kept_by_fronts Tails (stages_of tails) (distance_of tails (variable + 1))))
      (sym (distance_is Heads raw costs choices asked.costs_of.priced heads before variable))
      (subst (λ d. AreSides IsAtMost raw costs choices variable (kept_by_fronts Heads (stages_of heads) variable) (kept_by_fronts Tails (stages_of tails) d))
      (sym (distance_is Tails raw costs choices asked.costs_of.priced tails after (variable + 1)))
      (fronts_are_sides raw costs choices (stages_of heads) (stages_of tails) variable asked.variable_inside before.are after.are))

  -- an allowed way is an open one
  opens : (way : AWay) → IsAllowedWay costs bounds way → IsOpenWay raw variable value heads tails (price_of costs variable value) bounds (get_or raw.sizes variable 0) way.node way.target way.head_place way.tail_place
  opens way fits =
      let h = kept_at Heads (stages_of heads) (distance_of heads variable) way.node way.head_place way.head way.head_is in
      let t = kept_at Tails (stages_of tails) (distance_of tails (variable + 1)) way.target way.tail_place way.tail way.tail_is in
      record {
        inside = way.inside;
        leads = way.leads;
        head_inside = h.inside;
        tail_inside = t.inside;
        allowed = ap (λ (k : Kept). allows_pair bounds (plus_pair k.pair (plus_pair (price_of costs variable value) (pair_of (slice_index_or (front_of tails (variable + 1) way.target) way.tail_place no_item))))) h.is
            ∙ ap (λ (k : Kept). allows_pair bounds (plus_pair way.head.pair (plus_pair (price_of costs variable value) k.pair))) t.is ∙ fits;
      }

  module _ (way : FrontWay) (least : IsLeastFrontWay raw variable value heads tails (price_of costs variable value) bounds (get_or raw.sizes variable 0) (Some way)) where
    the_way : AWay
    the_way = record {
      node = way.node;
      target = way.target;
      head_place = way.join.head;
      tail_place = way.join.tail;
      head = kept_item Heads (stages_of heads) (distance_of heads variable) (slice_index_or (front_of heads variable way.node) way.join.head no_item);
      tail = kept_item Tails (stages_of tails) (distance_of tails (variable + 1)) (slice_index_or (front_of tails (variable + 1) way.target) way.join.tail no_item);
      inside = least.own.inside;
      leads = least.own.leads;
      head_is = ap (option_map (kept_item Heads (stages_of heads) (distance_of heads variable))) (at_place (front_of heads variable way.node) way.join.head least.own.head_inside);
      tail_is = ap (option_map (kept_item Tails (stages_of tails) (distance_of tails (variable + 1)))) (at_place (front_of tails (variable + 1) way.target) way.join.tail least.own.tail_inside);
    }

    is_least : IsLeastWay raw costs bounds variable value (kept_by_fronts Heads (stages_of heads) (distance_of heads variable)) (kept_by_fronts Tails (stages_of tails) (distance_of tails (variable + 1))) the_way
    unfolding the_way
    is_least = record {
      allowed = least.own.allowed;
      least = λ other fits.
          let h = kept_at Heads (stages_of heads) (distance_of heads variable) other.node other.head_place other.head other.head_is in
          let t = kept_at Tails (stages_of tails) (distance_of tails (variable + 1)) other.target other.tail_place other.tail other.tail_is in
          let price = price_of costs variable value in
          let mine = joined_at price (front_of heads variable way.node) (front_of tails (variable + 1) way.target) way.join.head way.join.tail in
          ap (λ (k : Kept). is_less (record { pair = plus_pair k.pair (plus_pair price other.tail.pair); rank = k.rank }) mine) (sym h.is)
          ∙ ap (λ (k : Kept). is_less (record { pair = plus_pair (pair_of (slice_index_or (front_of heads variable other.node) other.head_place no_item)) (plus_pair price k.pair); rank = (slice_index_or (front_of heads variable other.node) other.head_place no_item).back.rank }) mine) (sym t.is)
          ∙ ap (is_less (joined_at price (front_of heads variable other.node) (front_of tails (variable + 1) other.target) other.head_place other.tail_place)) (sym least.ranked)
          ∙ least.least other.node other.target other.head_place other.tail_place (opens other fits);
    }

    by_sides : listed_of raw costs choices bounds variable value ≡ Some (listed costs value (joined_word value the_way.head the_way.tail))
    by_sides = least_listed raw costs choices bounds variable value asked IsAtMost at_most_adds_up (at_most_downward bounds)
        (kept_by_fronts Heads (stages_of heads) (distance_of heads variable)) (kept_by_fronts Tails (stages_of tails) (distance_of tails (variable + 1))) sides allowed the_way is_least

    -- the word by the sides that the fronts are of
    word_is : joined_word value the_way.head the_way.tail ≡ word_of_way heads tails variable value way
    unfolding the_way
    word_is =
        ap (λ s. word_at s (stages_of heads) (distance_of heads variable) (slice_index_or (front_of heads variable way.node) way.join.head no_item)
        ++ value ∷ word_at Tails (stages_of tails) (distance_of tails (variable + 1)) (slice_index_or (front_of tails (variable + 1) way.target) way.join.tail no_item)) (sym before.side_is)
        ∙ ap (λ s. word_at (side_of heads) (stages_of heads) (distance_of heads variable) (slice_index_or (front_of heads variable way.node) way.join.head no_item)
        ++ value ∷ word_at s (stages_of tails) (distance_of tails (variable + 1)) (slice_index_or (front_of tails (variable + 1) way.target) way.join.tail no_item)) (sym after.side_is)

    pub front_listed : listed_of raw costs choices bounds variable value ≡ Some (listed costs value (word_of_way heads tails variable value way))
    front_listed = by_sides ∙ ap (λ w. Some (listed costs value w)) word_is

    -- and its costs are those of the join
    pub front_costs : cost_pair costs (word_of_way heads tails variable value way) ≡ way.join.ranked.pair
    unfolding the_way
    front_costs =
        ap (cost_pair costs) (sym word_is)
        ∙ way_costs IsAtMost at_most_adds_up (allows_pair bounds) (at_most_downward bounds) raw asked.canonical choices costs asked.costs_of variable value asked.variable_inside asked.value_inside allowed
        (kept_by_fronts Heads (stages_of heads) (distance_of heads variable)) (kept_by_fronts Tails (stages_of tails) (distance_of tails (variable + 1))) sides.before sides.after the_way
        ∙ ap (λ (r : Ranked). r.pair) (sym least.ranked)

    -- an item of this word and these costs is what is listed
    pub front_item : (first second : ℤ) (word : List ℕ) → first ≡ way.join.ranked.pair.first → second ≡ way.join.ranked.pair.second → word ≡ word_of_way heads tails variable value way
        → Some (record { value = value; first = first; second = second; word = word }) ≡ listed_of raw costs choices bounds variable value
    front_item first second word first_is second_is is =
        let one : first ≡ cost costs First (word_of_way heads tails variable value way) = first_is ∙ ap (λ (p : CostPair). p.first) (sym front_costs) in
        let two : second ≡ cost costs Second (word_of_way heads tails variable value way) = second_is ∙ ap (λ (p : CostPair). p.second) (sym front_costs) in
        ap (λ z. Some (record { value = value; first = z; second = second; word = word })) one
        ∙ ap (λ z. Some (record { value = value; first = cost costs First (word_of_way heads tails variable value way); second = z; word = word })) two
        ∙ ap (λ w. Some (record { value = value; first = cost costs First (word_of_way heads tails variable value way); second = cost costs Second (word_of_way heads tails variable value way); word = w })) is
        ∙ sym front_listed

  pub front_unlisted : IsLeastFrontWay raw variable value heads tails (price_of costs variable value) bounds (get_or raw.sizes variable 0) None → listed_of raw costs choices bounds variable value ≡ None
  front_unlisted none = none_allowed raw costs choices bounds variable value asked IsAtMost at_most_adds_up (at_most_downward bounds)
      (kept_by_fronts Heads (stages_of heads) (distance_of heads variable)) (kept_by_fronts Tails (stages_of tails) (distance_of tails (variable + 1))) sides allowed
      (λ way fits. none way.node way.target way.head_place way.tail_place (opens way fits))

  -- a least way that the bounds allow tells what is listed, and that nothing is where there is none
  pub front_tells : (o : Option FrontWay) → IsLeastFrontWay raw variable value heads tails (price_of costs variable value) bounds (get_or raw.sizes variable 0) o → TellsByFronts (listed_of raw costs choices bounds variable value) heads tails variable value o
  front_tells None least = sym (front_unlisted least)
  front_tells (Some way) least =
      let are = joinable raw costs choices variable heads tails asked.canonical asked.costs_of asked.variable_inside before after in
      record {
        inside = record {
          node = omega (arith, are.before.nodes, least.own.inside);
          target = omega (arith, are.after.nodes, edge_inside raw asked.canonical variable way.node value way.target asked.variable_inside least.own.leads);
          head = least.own.head_inside;
          tail = least.own.tail_inside;
        };
        is = front_item way least way.join.ranked.pair.first way.join.ranked.pair.second (word_of_way heads tails variable value way) refl refl refl;
      }
