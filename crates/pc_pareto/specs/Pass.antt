-- What holds of the fronts of the layers up to some distance from the end of a side.
use Rattle.std.specs.Prelude.{◌≡◌, ℕ, ◌+◌, ◌<◌, ◌≤◌, nat_lt, List, [], length, map, sum, take, slice_index, slice_index_or, Contains, true, false}
use Rattle.pc_diagram.specs.declared.choice.Choice.{Choice}
use Rattle.pc_diagram.specs.declared.costs.CostPair.{CostPair}
use Rattle.pc_diagram.specs.declared.raw_diagram.RawDiagram.{RawDiagram}
use Rattle.pc_diagram.specs.declared.side.Side.{Side}
use Rattle.pc_diagram.specs.NodePaths.{comes_before}
use Rattle.pc_pareto.specs.declared.front_item.FrontItem.{FrontItem}
use Rattle.pc_pareto.specs.declared.limits.TheConstants.{MOST_LABELS, MOST_RANKS}
use Rattle.pc_pareto.specs.Front.{is_at_most, Falls}
use Rattle.pc_pareto.specs.Fronts.{words_of, pair_of_word, layer_at, sizes_from, word_at}
use Rattle.pc_pareto.specs.Items.{pair_of}

-- what holds of the fronts of one layer: Word tells the words of a node, pairs what they cost, and word the word of an item
pub record StageFacts (Word : ℕ → List ℕ → Type 0) (pairs : List ℕ → CostPair) (stage : List (List FrontItem)) (word : FrontItem → List ℕ) (limit : ℕ) : Type 0 where
  pub among : (node : ℕ) (x : FrontItem) → Contains (slice_index_or stage node []) x → Word node (word x) × (pairs (word x) ≡ pair_of x)
  pub falls : (node : ℕ) → Falls (map pair_of (slice_index_or stage node []))
  pub covered : (node : ℕ) (w : List ℕ) → node < length stage → Word node w
      → (x : FrontItem) × Contains (slice_index_or stage node []) x × (is_at_most (pair_of x) (pairs w) ≡ true) × (is_at_most (pairs w) (pair_of x) ≡ true → comes_before w (word x) ≡ false)
  pub ranks : (node other_node : ℕ) (x y : FrontItem) → Contains (slice_index_or stage node []) x → Contains (slice_index_or stage other_node []) y → nat_lt x.back.rank y.back.rank ≡ comes_before (word x) (word y)
  pub below : (node : ℕ) (x : FrontItem) → Contains (slice_index_or stage node []) x → x.back.rank < limit

-- a word is one of a node of the layer at a distance
abbrev pub WordAt : Side → RawDiagram → List Choice → ℕ → ℕ → List ℕ → Type 0
WordAt side raw choices distance node word =
    Contains (words_of side raw choices (layer_at side (length raw.domains) distance) node) word

-- what it costs
abbrev pub pairs_at : Side → RawDiagram → List (List CostPair) → ℕ → List ℕ → CostPair
pairs_at side raw costs distance = pair_of_word side costs (layer_at side (length raw.domains) distance)

-- the fronts of the layers up to a distance, with a bound on the ranks of the last one, and how many pairs they have
pub record IsPass (side : Side) (raw : RawDiagram) (costs : List (List CostPair)) (choices : List Choice) (distance : ℕ) (stages : List (List (List FrontItem))) (limit total : ℕ) : Type 0 where
  pub count : length stages ≡ distance + 1
  pub sizes : (d : ℕ) → d ≤ distance → length (slice_index_or stages d []) ≡ slice_index raw.sizes (layer_at side (length raw.domains) d)
  pub facts : (d : ℕ) → d ≤ distance → (bound : ℕ) × StageFacts (WordAt side raw choices d) (pairs_at side raw costs d) (slice_index_or stages d []) (word_at side stages d) bound
  pub last : StageFacts (WordAt side raw choices distance) (pairs_at side raw costs distance) (slice_index_or stages distance []) (word_at side stages distance) limit
  pub few : (node : ℕ) → length (slice_index_or (slice_index_or stages distance []) node []) ≤ MOST_LABELS
  pub ranks : limit ≤ MOST_RANKS
  pub total_is : total ≡ sum (take (distance + 1) (sizes_from side raw costs choices))
  pub within : total ≤ MOST_LABELS

-- the fronts of all layers
abbrev pub IsWholePass : Side → RawDiagram → List (List CostPair) → List Choice → List (List (List FrontItem)) → Type 0
IsWholePass side raw costs choices stages = (limit : ℕ) × (total : ℕ) × IsPass side raw costs choices (length raw.domains) stages limit total
