-- What labels keep.
use Rattle.std.specs.Prelude.{ℕ, List, [], ◌∷◌, ◌++◌, slice_index_or, Option, Some, None, option_map}
use Rattle.pc_diagram.specs.declared.costs.CostPair.{CostPair}
use Rattle.pc_diagram.specs.declared.side.Side.{Side}
use Rattle.pc_diagram.specs.declared.side.Side.TheVariants.{Heads, Tails}
use Rattle.pc_diagram.specs.declared.weight.Ranked.{Ranked}
use Rattle.pc_labels.specs.declared.label.Label.{Label}
use Rattle.pc_labels.specs.declared.step.Step.{Step}
use Rattle.pc_labels.specs.Marks.{Marks}

-- what is kept of a node: a path, what it costs, and its rank among the paths that are kept in its layer
pub record Kept : Type 0 where
  pub pair : CostPair
  pub rank : ℕ
  pub path : List ℕ

-- the end from which paths are taken, and per layer and node what is kept, if anything is
pub record KeptPaths : Type 0 where
  pub side : Side
  pub layers : List (List (Option Kept))

-- what is kept of a node of a layer
abbrev pub kept_at : KeptPaths → ℕ → ℕ → Option Kept
kept_at labels layer node = slice_index_or (slice_index_or labels.layers layer []) node None

-- the costs of what is kept
abbrev pub label : Kept → Label
label kept = record { first = kept.pair.first; second = kept.pair.second }

-- the costs and the rank of what is kept
abbrev pub weight : Kept → Ranked
weight kept = record { pair = kept.pair; rank = kept.rank }

-- a path with one value more at the end away from where it starts
abbrev pub extend : Side → List ℕ → ℕ → List ℕ
extend Heads path value = path ++ value ∷ []
extend Tails path value = value ∷ path

-- a path that is kept, or the empty one
abbrev pub path_of : Option Kept → List ℕ
path_of None = []
path_of (Some kept) = kept.path

-- the path that is kept of a node of a layer
abbrev pub path_at : List (Option Kept) → ℕ → List ℕ
path_at row node = path_of (slice_index_or row node None)

-- what a weight and a step back to the layer before keep
abbrev pub kept_by : Side → List (Option Kept) → Option Ranked → Step → Option Kept
kept_by side before weight step = option_map (λ r. record { pair = r.pair; rank = r.rank; path = extend side (path_at before step.node) step.value }) weight

-- what is kept of each node
abbrev pub kept_row : Side → List (Option Kept) → List (Option Ranked) → List Step → List (Option Kept)
kept_row side before [] steps = []
kept_row side before (weight ∷ weights) [] = []
kept_row side before (weight ∷ weights) (step ∷ steps) = kept_by side before weight step ∷ kept_row side before weights steps

-- what is kept of the node where paths start: the empty path
abbrev pub kept_start : List (Option Ranked) → List (Option Kept)
kept_start [] = []
kept_start (weight ∷ weights) = option_map (λ r. record { pair = r.pair; rank = r.rank; path = [] }) weight ∷ kept_start weights

-- what is kept in layers that follow one another from the root on
abbrev pub kept_after : List (Option Kept) → List Marks → List (List (Option Kept))
kept_after before [] = []
kept_after before (marks ∷ layers) = kept_row Heads before marks.weights marks.steps ∷ kept_after (kept_row Heads before marks.weights marks.steps) layers

abbrev pub kept_heads : List Marks → List (List (Option Kept))
kept_heads [] = []
kept_heads (marks ∷ layers) = kept_start marks.weights ∷ kept_after (kept_start marks.weights) layers

-- and in layers that lead to the end
abbrev pub kept_before : Marks → List (List (Option Kept)) → List (Option Kept)
kept_before marks [] = kept_start marks.weights
kept_before marks (row ∷ rows) = kept_row Tails row marks.weights marks.steps

abbrev pub kept_tails : List Marks → List (List (Option Kept))
kept_tails [] = []
kept_tails (marks ∷ layers) = kept_before marks (kept_tails layers) ∷ kept_tails layers

abbrev pub kept_layers : Side → List Marks → List (List (Option Kept))
kept_layers Heads layers = kept_heads layers
kept_layers Tails layers = kept_tails layers
