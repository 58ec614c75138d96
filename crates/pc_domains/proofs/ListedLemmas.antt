-- What is listed of a value, by what is kept on either side of its variable.
use Rattle.std.proofs.Common.{◌≡◌, ℕ, Bool, true, false, ◌&&◌, List, Option, Some, None, refl}
use Rattle.std.proofs.lemmas.Bool.{both_ways}
use Rattle.pc_diagram.specs.declared.bounds.Bounds.{Bounds}
use Rattle.pc_diagram.specs.declared.choice.Choice.{Choice}
use Rattle.pc_diagram.specs.declared.costs.CostPair.{CostPair}
use Rattle.pc_diagram.specs.declared.raw_diagram.RawDiagram.{RawDiagram}
use Rattle.pc_diagram.specs.Bounds.{allows_pair}
use Rattle.pc_diagram.specs.Choices.{value_of}
use Rattle.pc_diagram.specs.Fitting.{takes, within}
use Rattle.pc_diagram.specs.Listing.{listed}
use Rattle.pc_diagram.specs.NodePaths.{is_allowed}
use Rattle.pc_diagram.specs.Words.{is_word}
use Rattle.pc_diagram.proofs.ShapeLemmas.{both}
use Rattle.pc_domains.specs.Sides.{AreSides, IsAllowedWay, IsAsked, IsLeastWay, listed_of}
use Rattle.pc_domains.specs.Ways.{Kept, Way, joined_word}
use Rattle.pc_domains.proofs.ItemLemmas.{listed_least, none_listed}
use Rattle.pc_domains.proofs.ThroughLemmas.{is_open, open_passage}
use Rattle.pc_domains.proofs.WayLemmas.{AddsUp, IsDownward, least_way, no_way}

module _ (raw : RawDiagram) (costs : List (List CostPair)) (choices : List Choice) (bounds : Bounds) (variable value : ℕ) (asked : IsAsked raw costs choices variable value) where
  -- a value that the choices don't allow isn't listed
  pub other_chosen : is_allowed (value_of choices variable) value ≡ false → listed_of raw costs choices bounds variable value ≡ None
  other_chosen no_choice = none_listed raw choices costs bounds asked.choices_of.distinct asked.choices_of.choices_of variable value none
    where
      none : (word : List ℕ) → is_word raw.domains word ≡ true → ((is_open raw choices word && takes word variable value) && within costs word bounds) ≡ false
      none word over = by (is_open raw choices word && takes word variable value) refl
        where
          by : (b : Bool) → (is_open raw choices word && takes word variable value) ≡ b → (b && within costs word bounds) ≡ false
          by false e = refl
          by true e =
              let two = both (is_open raw choices word) (takes word variable value) e in
              let passage = open_passage raw choices variable value asked.variable_inside word over two.0 two.1 in
              absurd (both_ways (is_allowed (value_of choices variable) value) no_choice passage.allowed)

  module _ (no_more : CostPair → CostPair → Type 0) (order : AddsUp no_more) (downward : IsDownward no_more (allows_pair bounds)) (heads tails : ℕ → ℕ → Option Kept) (sides : AreSides no_more raw costs choices variable heads tails)
      (allowed : is_allowed (value_of choices variable) value ≡ true) where
    -- the word of the least way is listed
    pub least_listed : (way : Way raw variable value heads tails) → IsLeastWay raw costs bounds variable value heads tails way → listed_of raw costs choices bounds variable value ≡ Some (listed costs value (joined_word value way.head way.tail))
    least_listed way least =
        listed_least raw choices costs bounds asked.choices_of.distinct asked.choices_of.choices_of variable value (joined_word value way.head way.tail)
        (least_way no_more order (allows_pair bounds) downward raw asked.canonical choices costs asked.costs_of variable value asked.variable_inside asked.value_inside allowed heads tails sides.before sides.after way least.allowed least.least)

    -- where the bounds allow no way, the value isn't listed
    pub none_allowed : ((way : Way raw variable value heads tails) → IsAllowedWay costs bounds way → ⊥) → listed_of raw costs choices bounds variable value ≡ None
    none_allowed none =
        none_listed raw choices costs bounds asked.choices_of.distinct asked.choices_of.choices_of variable value
        (no_way no_more order (allows_pair bounds) downward raw asked.canonical choices costs asked.costs_of variable value asked.variable_inside asked.value_inside allowed heads tails sides.before sides.after none)
