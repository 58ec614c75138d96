-- The sets of words that a store keeps.
use Rattle.std.specs.Prelude.{◌≡◌, ℕ, ◌+◌, ◌<◌, ◌≤◌, List, [], ◌∷◌, Bool, true, false, Option, None, Some, length, map, drop, slice_get, slice_index}
use Rattle.pc_diagram.specs.Words.{is_word}
use Rattle.pc_store.specs.declared.id.Id.{Id}
use Rattle.pc_store.specs.declared.id.Node.{Node}
use Rattle.pc_store.specs.declared.layer.Layer.{Layer}
use Rattle.pc_store.specs.Layered.{node_count, accepts}

-- the numbers of values of the variables, in order
unfoldable pub domains_of : List Layer → List ℕ
domains_of store = map (λ layer. layer.domain) store

-- the layer of an id: its words have values of the variables from there on
unfoldable pub layer_of : Id → ℕ
layer_of id = id.layer

-- the id of a node of a layer
unfoldable pub id_at : ℕ → Node → Id
id_at layer node = record { layer = layer; node = node.number }

-- an id names a node of one of the layers, or one past the last
unfoldable pub IsNamed : List Layer → Id → Type 0
IsNamed store id = (id.layer ≤ length store) × (id.node < node_count (drop id.layer store))

-- the set of an id has a word
unfoldable pub has : List Layer → Id → List ℕ → Bool
has store id word = accepts (drop id.layer store) id.node word

-- two ids have the same words
abbrev pub SameWords : List Layer → Id → Id → Type 0
SameWords store a b = (word : List ℕ) → has store a word ≡ has store b word

-- an id names a node, its words are words over the variables from its layer on, and no other id of its layer has the same
-- words
pub record NamesSet (store : List Layer) (id : Id) : Type 0 where
  pub named : IsNamed store id
  pub over : (word : List ℕ) → has store id word ≡ true → is_word (drop (layer_of id) (domains_of store)) word ≡ true
  pub once : (other : Id) → IsNamed store other → layer_of other ≡ layer_of id → SameWords store other id → other ≡ id

-- an id of a store
unfoldable pub IsId : List Layer → Id → Type 0
IsId store id = NamesSet store id

-- an id of one layer of a store
abbrev pub IsIdAt : List Layer → ℕ → Id → Type 0
IsIdAt store layer id = IsId store id × (layer_of id ≡ layer)

-- a node of one layer of a store
abbrev pub IsNodeAt : List Layer → ℕ → Node → Type 0
IsNodeAt store layer node = IsIdAt store layer (id_at layer node)

-- from one state of a store to another, each id stays one and keeps its set
pub record Keeps (old new : List Layer) : Type 0 where
  pub domains : domains_of new ≡ domains_of old
  pub ids : (id : Id) → IsId old id → IsId new id
  pub sets : (id : Id) → IsId old id → (word : List ℕ) → has new id word ≡ has old id word

-- there is a set, and it has a word
abbrev pub has_in : List Layer → Option Id → List ℕ → Bool
has_in store None word = false
has_in store (Some id) word = has store id word

-- a word begins with a value and goes on in the set of the child for that value
abbrev pub leads : List Layer → List Id → List ℕ → Bool
leads store children [] = false
leads store children (value ∷ word) = has_in store (slice_get children value) word

-- what the words of a set go on with after each value of its layer
pub record AreChildren (store : List Layer) (layer : ℕ) (node : Node) (children : List Node) : Type 0 where
  pub count : length children ≡ slice_index (domains_of store) layer
  pub nodes : (value : ℕ) (child : Node) → slice_get children value ≡ Some child → IsNodeAt store (layer + 1) child
  pub sets : (value : ℕ) (child : Node) → slice_get children value ≡ Some child → (word : List ℕ) → has store (id_at (layer + 1) child) word ≡ has store (id_at layer node) (value ∷ word)
