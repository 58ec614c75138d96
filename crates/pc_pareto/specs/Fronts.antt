-- The fronts of all nodes of a diagram, from one of its ends.
use Rattle.std.specs.Prelude.{◌≡◌, ℕ, zero, suc, ◌+◌, ◌-◌, ◌<◌, ◌≤◌, nat_lt, pos, List, [], ◌∷◌, ◌++◌, length, map, drop, take, sum, slice_index, slice_index_or, All, Contains, false, Option}
use Rattle.std.specs.List.{range_with_len}
use Rattle.pc_diagram.specs.declared.choice.Choice.{Choice}
use Rattle.pc_diagram.specs.declared.costs.CostPair.{CostPair}
use Rattle.pc_diagram.specs.declared.raw_diagram.RawDiagram.{RawDiagram}
use Rattle.pc_diagram.specs.declared.side.Side.{Side}
use Rattle.pc_diagram.specs.declared.side.Side.TheVariants.{Heads, Tails}
use Rattle.pc_diagram.specs.Costs.{cost_pair}
use Rattle.pc_diagram.specs.DiagramShape.{first_below}
use Rattle.pc_diagram.specs.NodePaths.{heads, tails, comes_before}
use Rattle.pc_pareto.specs.declared.front_item.FrontItem.{FrontItem}
use Rattle.pc_pareto.specs.Front.{front}
use Rattle.pc_pareto.specs.Items.{pair_of}

-- the words of a node: those that lead to it from the root, or from it to the end, and agree with the choices
abbrev pub words_of : Side → RawDiagram → List Choice → ℕ → ℕ → List (List ℕ)
words_of Heads raw choices layer node = heads raw choices layer node
words_of Tails raw choices layer node = tails raw choices layer node

-- what such a word costs
abbrev pub pair_of_word : Side → List (List CostPair) → ℕ → List ℕ → CostPair
pair_of_word Heads costs layer word = cost_pair costs word
pair_of_word Tails costs layer word = cost_pair (drop layer costs) word

-- the front of a node: that of the pairs of its words
abbrev pub front_of_node : Side → RawDiagram → List (List CostPair) → List Choice → ℕ → ℕ → List CostPair
front_of_node side raw costs choices layer node =
    front (map (pair_of_word side costs layer) (words_of side raw choices layer node))

-- how many pairs the fronts of a layer have
abbrev pub layer_size : Side → RawDiagram → List (List CostPair) → List Choice → ℕ → ℕ
layer_size side raw costs choices layer =
    sum (map (λ node. length (front_of_node side raw costs choices layer node)) (range_with_len 0 (slice_index raw.sizes layer)))

-- the layer that is so far from the end of a side, of so many variables; the other way round it is the same
abbrev pub layer_at : Side → ℕ → ℕ → ℕ
layer_at Heads variables distance = distance
layer_at Tails variables distance = variables - distance

-- the first of some sizes at which their sum passes the most
abbrev pub first_past : ℕ → List ℕ → Option ℕ
first_past most sizes = first_below (λ k. nat_lt most (sum (take (k + 1) sizes))) (length sizes)

-- the sizes of the layers, from the end of a side on
abbrev pub sizes_from : Side → RawDiagram → List (List CostPair) → List Choice → List ℕ
sizes_from side raw costs choices =
    map (λ distance. layer_size side raw costs choices (layer_at side (length raw.domains) distance)) (range_with_len 0 (length raw.domains + 1))

-- how far from its end a side has more than so many pairs, all in all
abbrev pub limit_at : ℕ → Side → RawDiagram → List (List CostPair) → List Choice → Option ℕ
limit_at most side raw costs choices = first_past most (sizes_from side raw costs choices)

-- no item
abbrev pub no_item : FrontItem
no_item = record { first = pos 0; second = pos 0; back = record { node = 0; value = 0; place = 0; rank = 0 } }

-- the items of a node, and one of them, by how far its layer is from the end
abbrev pub items_at : List (List (List FrontItem)) → ℕ → ℕ → List FrontItem
items_at stages distance node = slice_index_or (slice_index_or stages distance []) node []

abbrev pub item_at : List (List (List FrontItem)) → ℕ → ℕ → ℕ → FrontItem
item_at stages distance node place = slice_index_or (items_at stages distance node) place no_item

-- a word with one value more, on the side away from the end
abbrev pub extended : Side → ℕ → List ℕ → List ℕ
extended Heads value word = word ++ value ∷ []
extended Tails value word = value ∷ word

-- the word that the steps back of an item give, which is so far from the end
abbrev pub word_at : Side → List (List (List FrontItem)) → ℕ → FrontItem → List ℕ
word_at side stages zero item = []
word_at side stages (suc distance) item =
    extended side item.back.value (word_at side stages distance (item_at stages distance item.back.node item.back.place))

-- a word is the first of some words that have a pair
pub record IsFirstWith (pairs : List ℕ → CostPair) (words : List (List ℕ)) (pair : CostPair) (word : List ℕ) : Type 0 where
  pub among : Contains words word
  pub has : pairs word ≡ pair
  pub first : All (λ other. pairs other ≡ pair → comes_before other word ≡ false) words

-- the fronts of all nodes of a side, with the choices: each node has the front of its words' pairs, the steps back of an item
-- give the first word of its pair, and within a layer ranks compare as these words do
pub record AreFronts (side : Side) (raw : RawDiagram) (costs : List (List CostPair)) (choices : List Choice) (stages : List (List (List FrontItem))) : Type 0 where
  pub layers : length stages ≡ length raw.domains + 1
  pub nodes : (distance : ℕ) → distance ≤ length raw.domains → length (slice_index_or stages distance []) ≡ slice_index raw.sizes (layer_at side (length raw.domains) distance)
  pub pairs : (distance node : ℕ) → distance ≤ length raw.domains → node < slice_index raw.sizes (layer_at side (length raw.domains) distance)
      → map pair_of (items_at stages distance node) ≡ front_of_node side raw costs choices (layer_at side (length raw.domains) distance) node
  pub paths : (distance node : ℕ) → distance ≤ length raw.domains → node < slice_index raw.sizes (layer_at side (length raw.domains) distance)
      → All (λ item. IsFirstWith (pair_of_word side costs (layer_at side (length raw.domains) distance)) (words_of side raw choices (layer_at side (length raw.domains) distance) node)
      (pair_of item) (word_at side stages distance item)) (items_at stages distance node)
  pub ranks : (distance node other_node : ℕ) (item other : FrontItem) → distance ≤ length raw.domains
      → Contains (items_at stages distance node) item → Contains (items_at stages distance other_node) other
      → nat_lt item.back.rank other.back.rank ≡ comes_before (word_at side stages distance item) (word_at side stages distance other)
