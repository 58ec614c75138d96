-- What is kept on either side of a variable, and what is asked of one of its values.
use Rattle.std.specs.Prelude.{◌≡◌, ℕ, ◌+◌, ◌<◌, List, [], take, drop, length, slice_index, slice_index_or, true, false, Option, IsTrue}
use Rattle.pc_diagram.specs.declared.bounds.Bounds.{Bounds}
use Rattle.pc_diagram.specs.declared.choice.Choice.{Choice}
use Rattle.pc_diagram.specs.declared.costs.CostPair.{CostPair}
use Rattle.pc_diagram.specs.declared.listed.Listed.{Listed}
use Rattle.pc_diagram.specs.declared.raw_diagram.RawDiagram.{RawDiagram}
use Rattle.pc_diagram.specs.Bounds.{allows_pair}
use Rattle.pc_diagram.specs.Choices.{are_distinct}
use Rattle.pc_diagram.specs.Costs.{pair_at}
use Rattle.pc_diagram.specs.Diagram.{IsCanonical}
use Rattle.pc_diagram.specs.Fitting.{fitting}
use Rattle.pc_diagram.specs.Listing.{item}
use Rattle.pc_diagram.specs.NodePaths.{AreChoicesOf, AreCostsOf, is_head, is_tail}
use Rattle.pc_diagram.specs.Paths.{words}
use Rattle.pc_domains.specs.Ways.{Keeps, Kept, Way, is_less_join, joined_pair}

-- distinct choices of a diagram's values
pub record AreDistinctOf (domains : List ℕ) (choices : List Choice) : Type 0 where
  pub distinct : IsTrue (are_distinct choices)
  pub choices_of : AreChoicesOf domains choices

-- a value of a diagram's variable, with costs and choices of the diagram's values
pub record IsAsked (raw : RawDiagram) (costs : List (List CostPair)) (choices : List Choice) (variable value : ℕ) : Type 0 where
  pub canonical : IsCanonical raw
  pub costs_of : AreCostsOf raw.domains costs
  pub choices_of : AreDistinctOf raw.domains choices
  pub variable_inside : variable < length raw.domains
  pub value_inside : value < slice_index raw.domains variable

-- what is listed of it
abbrev pub listed_of : RawDiagram → List (List CostPair) → List Choice → Bounds → ℕ → ℕ → Option Listed
listed_of raw costs choices bounds variable value = item costs (fitting costs (words raw) choices bounds) variable value

-- what is kept of the nodes before and after a variable
pub record AreSides (no_more : CostPair → CostPair → Type 0) (raw : RawDiagram) (costs : List (List CostPair)) (choices : List Choice) (variable : ℕ) (heads tails : ℕ → ℕ → Option Kept) : Type 0 where
  pub before : Keeps no_more costs (is_head raw choices variable) (take variable raw.domains) (slice_index raw.sizes variable) heads
  pub after : Keeps no_more (drop (variable + 1) costs) (is_tail raw choices (variable + 1)) (drop (variable + 1) raw.domains) (slice_index raw.sizes (variable + 1)) tails

-- the costs of a value of a variable
abbrev pub price_of : List (List CostPair) → ℕ → ℕ → CostPair
price_of costs variable value = pair_at (slice_index_or costs variable []) value

-- a way whose costs bounds allow
abbrev pub IsAllowedWay : {raw : RawDiagram} {variable value : ℕ} {heads tails : ℕ → ℕ → Option Kept} → List (List CostPair) → Bounds → Way raw variable value heads tails → Type 0
IsAllowedWay {variable = variable} {value = value} costs bounds way = allows_pair bounds (joined_pair (price_of costs variable value) way.head way.tail) ≡ true

-- of the ways that bounds allow, one that no other is less than
pub record IsLeastWay (raw : RawDiagram) (costs : List (List CostPair)) (bounds : Bounds) (variable value : ℕ) (heads tails : ℕ → ℕ → Option Kept) (way : Way raw variable value heads tails) : Type 0 where
  pub allowed : IsAllowedWay costs bounds way
  pub least : (other : Way raw variable value heads tails) → IsAllowedWay costs bounds other → is_less_join (price_of costs variable value) other.head other.tail way.head way.tail ≡ false
