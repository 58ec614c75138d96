-- The least way through an edge of a value, by the labels of both ends.
use Rattle.std.specs.Prelude.{◌≡◌, ℕ, ◌+◌, ◌<◌, List, [], ◌∷◌, ◌++◌, length, slice_index, slice_index_or, Bool, false, if◌then◌else◌, Option, Some, None, IfSome, option_map}
use Rattle.pc_diagram.specs.declared.bounds.Bounds.{Bounds}
use Rattle.pc_diagram.specs.declared.costs.CostPair.{CostPair}
use Rattle.pc_diagram.specs.declared.raw_diagram.RawDiagram.{RawDiagram}
use Rattle.pc_diagram.specs.declared.weight.Ranked.{Ranked}
use Rattle.pc_diagram.specs.Bounds.{allows_pair}
use Rattle.pc_diagram.specs.Diagram.{IsCanonical}
use Rattle.pc_diagram.specs.Levels.{edge, level}
use Rattle.pc_diagram.specs.Weight.{plus_pair}
use Rattle.pc_labels.specs.Kept.{KeptPaths, kept_at, path_of, weight}
use Rattle.pc_domains.specs.declared.label_way.LabelWay.{LabelWay}
use Rattle.pc_domains.specs.Joins.{IsSumPair, is_less}

-- labels of a layer of so many nodes, whose costs are sums
pub record AreSummedLabels (layers layer size : ℕ) (labels : KeptPaths) : Type 0 where
  pub layers_are : length labels.layers ≡ layers
  pub nodes : length (slice_index_or labels.layers layer []) ≡ size
  pub sums : (node : ℕ) → node < size → IfSome (option_map weight (kept_at labels layer node)) (λ r. IsSumPair r.pair)

-- labels on either side of a variable of a diagram
pub record AreLinkable (raw : RawDiagram) (variable : ℕ) (heads tails : KeptPaths) : Type 0 where
  pub canonical : IsCanonical raw
  pub before : AreSummedLabels (length raw.domains + 1) variable (slice_index raw.sizes variable) heads
  pub after : AreSummedLabels (length raw.domains + 1) (variable + 1) (slice_index raw.sizes (variable + 1)) tails

-- what the paths on either side of an edge and a value between them cost, and the rank of the head; nothing where a path is
-- wanting
abbrev pub linked : CostPair → Option Ranked → Option Ranked → Option Ranked
linked price None tail = None
linked price (Some head) None = None
linked price (Some head) (Some tail) = Some (record { pair = plus_pair head.pair (plus_pair price tail.pair); rank = head.rank })

abbrev pub linked_over : KeptPaths → KeptPaths → CostPair → ℕ → ℕ → Option ℕ → Option Ranked
linked_over heads tails price variable node None = None
linked_over heads tails price variable node (Some target) = linked price (option_map weight (kept_at heads variable node)) (option_map weight (kept_at tails (variable + 1) target))

-- the same over the edge of a node for a value
abbrev pub linked_at : RawDiagram → KeptPaths → KeptPaths → CostPair → ℕ → ℕ → ℕ → Option Ranked
linked_at raw heads tails price variable value node = linked_over heads tails price variable node (edge (level raw variable) node value)

-- the lesser of two ways
abbrev pub lesser_label_way : Option LabelWay → LabelWay → Option LabelWay
lesser_label_way None way = Some way
lesser_label_way (Some old) way = if is_less way.ranked old.ranked then Some way else Some old

-- of the ways from so many nodes one that no other is less than, or none where there are none
pub record IsLeastLinked (raw : RawDiagram) (variable value : ℕ) (heads tails : KeptPaths) (price : CostPair) (count : ℕ) (way : LabelWay) : Type 0 where
  pub inside : way.node < count
  pub leads : edge (level raw variable) way.node value ≡ Some way.target
  pub is : linked_at raw heads tails price variable value way.node ≡ Some way.ranked
  pub least : (node : ℕ) (other : Ranked) → node < count → linked_at raw heads tails price variable value node ≡ Some other → is_less other way.ranked ≡ false

abbrev pub IsLeastLabelWay : RawDiagram → ℕ → ℕ → KeptPaths → KeptPaths → CostPair → ℕ → Option LabelWay → Type 0
IsLeastLabelWay raw variable value heads tails price count None = (node : ℕ) → node < count → linked_at raw heads tails price variable value node ≡ None
IsLeastLabelWay raw variable value heads tails price count (Some way) = IsLeastLinked raw variable value heads tails price count way

-- the word of a way: the paths of its nodes, with the value between them
abbrev pub word_of_label_way : KeptPaths → KeptPaths → ℕ → ℕ → LabelWay → List ℕ
word_of_label_way heads tails variable value way = path_of (kept_at heads variable way.node) ++ value ∷ path_of (kept_at tails (variable + 1) way.target)
