-- The labels of a diagram's nodes: of each the cheapest path, and of several such paths the one that comes first.
use Rattle.std.specs.Prelude.{◌≡◌, ℕ, zero, suc, ◌+◌, ◌*◌, ◌<◌, ◌≤◌, nat_lt, List, [], length, drop, slice_index, slice_index_or, if◌then◌else◌, Option, None, IfSome, option_map}
use Rattle.pc_diagram.specs.declared.choice.Choice.{Choice}
use Rattle.pc_diagram.specs.declared.costs.CostPair.{CostPair}
use Rattle.pc_diagram.specs.declared.raw_diagram.RawDiagram.{RawDiagram}
use Rattle.pc_diagram.specs.declared.side.Side.TheVariants.{Heads, Tails}
use Rattle.pc_diagram.specs.Best.{best}
use Rattle.pc_diagram.specs.Choices.{is_chosen, AgreeBeside}
use Rattle.pc_diagram.specs.Costs.{cost_pair}
use Rattle.pc_diagram.specs.NodePaths.{heads, tails, comes_before}
use Rattle.pc_labels.specs.Kept.{Kept, KeptPaths}

-- what is kept of the nodes of a layer: of each the best of its paths, if it has any, with its costs; and ranks compare as the
-- paths do
pub record IsLabelled (costs : List (List CostPair)) (paths : ℕ → List (List ℕ)) (size : ℕ) (row : List (Option Kept)) : Type 0 where
  pub nodes : length row ≡ size
  pub best_path : (node : ℕ) → node < size → option_map (λ kept. kept.path) (slice_index_or row node None) ≡ best costs (paths node)
  pub priced : (node : ℕ) → node < size → IfSome (slice_index_or row node None) (λ kept. kept.pair ≡ cost_pair costs kept.path)
  pub ranked : (node other : ℕ) → node < size → other < size
      → IfSome (slice_index_or row node None) (λ kept. IfSome (slice_index_or row other None) (λ beside. nat_lt kept.rank beside.rank ≡ comes_before kept.path beside.path))

-- labels of the paths from the root
pub record AreHeads (raw : RawDiagram) (choices : List Choice) (costs : List (List CostPair)) (labels : KeptPaths) : Type 0 where
  pub side : labels.side ≡ Heads
  pub layers : length labels.layers ≡ length raw.domains + 1
  pub labelled : (layer : ℕ) → layer ≤ length raw.domains
      → IsLabelled costs (heads raw choices layer) (slice_index raw.sizes layer) (slice_index_or labels.layers layer [])

-- labels of the paths to the end
pub record AreTails (raw : RawDiagram) (choices : List Choice) (costs : List (List CostPair)) (labels : KeptPaths) : Type 0 where
  pub side : labels.side ≡ Tails
  pub layers : length labels.layers ≡ length raw.domains + 1
  pub labelled : (layer : ℕ) → layer ≤ length raw.domains
      → IsLabelled (drop layer costs) (tails raw choices layer) (slice_index raw.sizes layer) (slice_index_or labels.layers layer [])

-- labels of the paths from the root, made for choices that agree with these at every variable other than one
pub record WereHeads (raw : RawDiagram) (choices : List Choice) (costs : List (List CostPair)) (variable : ℕ) (labels : KeptPaths) : Type 0 where
  pub before : List Choice
  pub made : AreHeads raw before costs labels
  pub agree : AgreeBeside variable before choices

-- labels of the paths to the end, made for such choices
pub record WereTails (raw : RawDiagram) (choices : List Choice) (costs : List (List CostPair)) (variable : ℕ) (labels : KeptPaths) : Type 0 where
  pub before : List Choice
  pub made : AreTails raw before costs labels
  pub agree : AgreeBeside variable before choices

-- how many slots of a variable are looked at: one a node where a value is chosen for it, else one for each node and value
abbrev pub slots_of : RawDiagram → List Choice → ℕ → ℕ
slots_of raw choices variable = slice_index raw.sizes variable * (if is_chosen choices variable then 1 else slice_index raw.domains variable)

-- how many slots of so many variables from one on
abbrev pub slot_count : RawDiagram → List Choice → ℕ → ℕ → ℕ
slot_count raw choices first zero = 0
slot_count raw choices first (suc count) = slots_of raw choices first + slot_count raw choices (first + 1) count
