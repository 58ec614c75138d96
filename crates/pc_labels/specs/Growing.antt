-- Labels in the making, layer by layer.
use Rattle.std.specs.Prelude.{◌≡◌, ℕ, ◌+◌, ◌<◌, ◌≤◌, List, [], length, drop, All, slice_index, slice_index_or, Some}
use Rattle.pc_diagram.specs.declared.choice.Choice.{Choice}
use Rattle.pc_diagram.specs.declared.costs.CostPair.{CostPair}
use Rattle.pc_diagram.specs.declared.raw_diagram.RawDiagram.{RawDiagram}
use Rattle.pc_diagram.specs.declared.side.Side.{Side}
use Rattle.pc_diagram.specs.declared.side.Side.TheVariants.{Heads, Tails}
use Rattle.pc_diagram.specs.declared.weight.Ranked.{Ranked}
use Rattle.pc_diagram.specs.NodePaths.{heads, tails}
use Rattle.pc_labels.specs.Kept.{kept_heads, kept_tails}
use Rattle.pc_labels.specs.Labels.{IsLabelled}
use Rattle.pc_labels.specs.Marks.{Marks, AreMarks, weight_at}
use Rattle.pc_labels.specs.SoFar.{step_at}

-- the marks of a layer
abbrev pub marks_at : List Marks → ℕ → Marks
marks_at layers layer = slice_index_or layers layer (record { weights = []; steps = []; limit = 0 })

-- where a node has a path, its step leads to a node of the other layer that has one
abbrev pub AreLinked : Marks → Marks → Type 0
AreLinked marks before = (node : ℕ) (r : Ranked) → weight_at marks node ≡ Some r → (s : Ranked) × (weight_at before (step_at marks node).node ≡ Some s)

-- each layer is linked with the one from which its paths come
abbrev pub AreJoined : Side → List Marks → Type 0
AreJoined Heads layers = (layer : ℕ) → layer + 1 < length layers → AreLinked (marks_at layers (layer + 1)) (marks_at layers layer)
AreJoined Tails layers = (layer : ℕ) → layer + 1 < length layers → AreLinked (marks_at layers layer) (marks_at layers (layer + 1))

-- layers of marks that are joined
pub record AreLayers (side : Side) (layers : List Marks) : Type 0 where
  pub marked : All AreMarks layers
  pub joined : AreJoined side layers

-- the layers from the root up to this one
pub record AreHeadsUpTo (raw : RawDiagram) (choices : List Choice) (costs : List (List CostPair)) (last : ℕ) (layers : List Marks) : Type 0 where
  pub layers_made : length layers ≡ last + 1
  pub marked : All AreMarks layers
  pub labelled : (layer : ℕ) → layer ≤ last → IsLabelled costs (heads raw choices layer) (slice_index raw.sizes layer) (slice_index_or (kept_heads layers) layer [])
  pub joined : AreJoined Heads layers

-- the layers from this one to the end
pub record AreTailsFrom (raw : RawDiagram) (choices : List Choice) (costs : List (List CostPair)) (first : ℕ) (layers : List Marks) : Type 0 where
  pub layers_made : length layers + first ≡ length raw.domains + 1
  pub marked : All AreMarks layers
  pub labelled : (layer : ℕ) → first + layer ≤ length raw.domains
      → IsLabelled (drop (first + layer) costs) (tails raw choices (first + layer)) (slice_index raw.sizes (first + layer)) (slice_index_or (kept_tails layers) layer [])
  pub joined : AreJoined Tails layers
