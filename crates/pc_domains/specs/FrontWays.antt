-- The least way through an edge of a value, by the fronts of both ends.
use Rattle.std.specs.Prelude.{◌≡◌, ℕ, ◌+◌, ◌<◌, List, [], ◌∷◌, ◌++◌, length, map, All, slice_index, slice_index_or, true, false, if◌then◌else◌, Option, Some, None}
use Rattle.pc_diagram.specs.declared.bounds.Bounds.{Bounds}
use Rattle.pc_diagram.specs.declared.costs.CostPair.{CostPair}
use Rattle.pc_diagram.specs.declared.raw_diagram.RawDiagram.{RawDiagram}
use Rattle.pc_diagram.specs.Bounds.{allows_pair}
use Rattle.pc_diagram.specs.Diagram.{IsCanonical}
use Rattle.pc_diagram.specs.Levels.{edge, level}
use Rattle.pc_pareto.specs.declared.front_item.FrontItem.{FrontItem}
use Rattle.pc_pareto.specs.declared.fronts.Fronts.{Fronts}
use Rattle.pc_pareto.specs.Front.{Falls}
use Rattle.pc_pareto.specs.Fronts.{items_at, no_item, word_at}
use Rattle.pc_pareto.specs.FrontsView.{distance_of, side_of, stages_of}
use Rattle.pc_pareto.specs.Items.{pair_of}
use Rattle.pc_domains.specs.declared.front_way.FrontWay.{FrontWay}
use Rattle.pc_domains.specs.declared.join.Join.{Join}
use Rattle.pc_domains.specs.Joins.{IsSumPair, is_less, joined_at}

-- the front of a node of a layer
abbrev pub front_of : Fronts → ℕ → ℕ → List FrontItem
front_of fronts layer node = items_at (stages_of fronts) (distance_of fronts layer) node

-- the fronts of a layer of so many nodes: each falls, and its costs are sums
pub record AreFallingFronts (layers layer size : ℕ) (fronts : Fronts) : Type 0 where
  pub layers_are : length (stages_of fronts) ≡ layers
  pub nodes : length (slice_index_or (stages_of fronts) (distance_of fronts layer) []) ≡ size
  pub falls : (node : ℕ) → node < size → Falls (map pair_of (front_of fronts layer node))
  pub sums : (node : ℕ) → node < size → All (λ item. IsSumPair (pair_of item)) (front_of fronts layer node)

-- fronts on either side of a variable of a diagram
pub record AreJoinable (raw : RawDiagram) (variable : ℕ) (heads tails : Fronts) : Type 0 where
  pub canonical : IsCanonical raw
  pub before : AreFallingFronts (length raw.domains + 1) variable (slice_index raw.sizes variable) heads
  pub after : AreFallingFronts (length raw.domains + 1) (variable + 1) (slice_index raw.sizes (variable + 1)) tails

-- the lesser of a way and the least join over another edge
abbrev pub lesser_way : Option FrontWay → ℕ → ℕ → Option Join → Option FrontWay
lesser_way least node target None = least
lesser_way None node target (Some join) = Some (record { node = node; target = target; join = join })
lesser_way (Some way) node target (Some join) =
    if is_less join.ranked way.join.ranked then Some (record { node = node; target = target; join = join }) else Some way

-- an edge of so many nodes, and two places of the fronts of its nodes whose join the bounds allow
pub record IsOpenWay (raw : RawDiagram) (variable value : ℕ) (heads tails : Fronts) (price : CostPair) (bounds : Bounds) (count node target head tail : ℕ) : Type 0 where
  pub inside : node < count
  pub leads : edge (level raw variable) node value ≡ Some target
  pub head_inside : head < length (front_of heads variable node)
  pub tail_inside : tail < length (front_of tails (variable + 1) target)
  pub allowed : allows_pair bounds (joined_at price (front_of heads variable node) (front_of tails (variable + 1) target) head tail).pair ≡ true

-- of the ways from so many nodes that the bounds allow, one that no other is less than
pub record IsLeastOpen (raw : RawDiagram) (variable value : ℕ) (heads tails : Fronts) (price : CostPair) (bounds : Bounds) (count : ℕ) (way : FrontWay) : Type 0 where
  pub own : IsOpenWay raw variable value heads tails price bounds count way.node way.target way.join.head way.join.tail
  pub ranked : way.join.ranked ≡ joined_at price (front_of heads variable way.node) (front_of tails (variable + 1) way.target) way.join.head way.join.tail
  pub least : (node target head tail : ℕ) → IsOpenWay raw variable value heads tails price bounds count node target head tail
      → is_less (joined_at price (front_of heads variable node) (front_of tails (variable + 1) target) head tail) way.join.ranked ≡ false

-- or none, where they allow none
abbrev pub IsLeastFrontWay : RawDiagram → ℕ → ℕ → Fronts → Fronts → CostPair → Bounds → ℕ → Option FrontWay → Type 0
IsLeastFrontWay raw variable value heads tails price bounds count None =
    (node target head tail : ℕ) → IsOpenWay raw variable value heads tails price bounds count node target head tail → ⊥
IsLeastFrontWay raw variable value heads tails price bounds count (Some way) = IsLeastOpen raw variable value heads tails price bounds count way

-- the word of a way: the words of its two items, with the value between them
abbrev pub word_of_way : Fronts → Fronts → ℕ → ℕ → FrontWay → List ℕ
word_of_way heads tails variable value way =
    word_at (side_of heads) (stages_of heads) (distance_of heads variable) (slice_index_or (front_of heads variable way.node) way.join.head no_item)
    ++ value ∷ word_at (side_of tails) (stages_of tails) (distance_of tails (variable + 1)) (slice_index_or (front_of tails (variable + 1) way.target) way.join.tail no_item)
