-- Places that have the words of other places that are in sets.
use Rattle.std.specs.Prelude.{◌≡◌, ℕ, ◌+◌, ◌-◌, ◌<◌, ◌≤◌, List, ◌∷◌, ◌++◌, Bool, ◌&&◌, Some, length, drop, slice_get, slice_index, slice_index_or}
use Rattle.pc_store.specs.declared.id.Id.{Id}
use Rattle.pc_store.specs.declared.store.Store.{Store}
use Rattle.pc_store.specs.Sets.{domains_of, id_at, IsIdAt, IsNodeAt, has}
use Rattle.pc_conjunction.specs.declared.layer.Layer.{Layer}
use Rattle.pc_conjunction.specs.declared.pair.Pair.{Pair}
use Rattle.pc_conjunction.specs.Places.{place_count, domains, accepts, column, IsLayered}

-- the layers from one on, of which the first has so many places
pub record IsBelow (store : Store) (layer count : ℕ) (layers : List Layer) : Type 0 where
  pub layered : IsLayered layers
  pub domains_are : domains layers ≡ drop layer (domains_of store)
  pub count_is : place_count layers ≡ count

-- a word is in the set of a node of a layer
abbrev pub in_node : Store → ℕ → Pair → List ℕ → Bool
in_node store layer pair word = has store (id_at layer pair.node) word

-- pairs of a layer, of which so many places are there
abbrev pub ArePairs : Store → ℕ → ℕ → List Pair → Type 0
ArePairs store layer count pairs = (i : ℕ) (pair : Pair) → slice_get pairs i ≡ Some pair → (pair.place < count) × IsNodeAt store layer pair.node

-- all places of layers keep their words, and after those of the first stands one for each pair
pub record HavePlaces (store : Store) (layer : ℕ) (old new : List Layer) (pairs : List Pair) : Type 0 where
  pub kept : (place : ℕ) → place < place_count old → (word : List ℕ) → accepts new place word ≡ accepts old place word
  pub met : (i : ℕ) (pair : Pair) → slice_get pairs i ≡ Some pair → (word : List ℕ) → accepts new (place_count old + i) word ≡ (accepts old pair.place word && in_node store layer pair word)

-- the layers over the same variables with one place more at the end of the first for each pair
pub record Extends (store : Store) (layer : ℕ) (old new : List Layer) (pairs : List Pair) : Type 0 where
  pub layered : IsLayered new
  pub domains_are : domains new ≡ domains old
  pub count_is : place_count new ≡ place_count old + length pairs
  pub places : HavePlaces store layer old new pairs

-- a place stands for the words of another that pass a test, once the layers have a place for each pair
pub record Meets (store : Store) (layer : ℕ) (layers : List Layer) (pairs : List Pair) (place : ℕ) (test : List ℕ → Bool) (target : ℕ) : Type 0 where
  pub within : target < place_count layers + length pairs
  pub words : (new : List Layer) → HavePlaces store layer layers new pairs → (word : List ℕ) → accepts new target word ≡ (accepts layers place word && test word)

-- a pair has a place of a layer, after so many places that are there
pub record StandsAt (count : ℕ) (pairs : List Pair) (place : ℕ) (pair : Pair) : Type 0 where
  pub after : count ≤ place
  pub is_there : slice_get pairs (place - count) ≡ Some pair

-- more pairs stand after those that were there, and all are pairs of the layer
pub record MorePairs (store : Store) (layer count : ℕ) (old new : List Pair) : Type 0 where
  pub more : List Pair
  pub pairs_are : new ≡ old ++ more
  pub valid : ArePairs store layer count old → ArePairs store layer count new
  pub at_end : layer ≡ length (domains_of store) → new ≡ old

-- a column with the place of each pair after its own
pub record GrownColumn (store : Store) (layer : ℕ) (layers : List Layer) (value : ℕ) (pairs next : List Pair) (old new : List ℕ) : Type 0 where
  pub width : length new ≡ length old + length pairs
  pub kept : (place : ℕ) → place < length old → slice_index_or new place 0 ≡ slice_index_or old place 0
  pub met : (i : ℕ) (pair : Pair) → slice_get pairs i ≡ Some pair
      → Meets store (layer + 1) layers next (slice_index_or old pair.place 0) (λ word. in_node store layer pair (value ∷ word)) (slice_index_or new (length old + i) 0)

-- a column whose places go on in a set
pub record CutColumn (store : Store) (layer : ℕ) (layers : List Layer) (test : List ℕ → Bool) (next : List Pair) (old new : List ℕ) : Type 0 where
  pub width : length new ≡ length old
  pub empty : slice_index_or old 0 0 ≡ 0 → slice_index_or new 0 0 ≡ 0
  pub met : (place : ℕ) → place < length old → Meets store layer layers next (slice_index_or old place 0) test (slice_index_or new place 0)

-- each place loses the words that aren't in a set
pub record Narrows (store : Store) (set : Id) (old new : List Layer) : Type 0 where
  pub layered : IsLayered new
  pub domains_are : domains new ≡ domains old
  pub count_is : place_count new ≡ place_count old
  pub words : (place : ℕ) (word : List ℕ) → accepts new place word ≡ (accepts old place word && has store set word)

-- a layer with a place for each pair after its own
pub record GrownLayer (store : Store) (layer : ℕ) (layers : List Layer) (pairs next : List Pair) (old new : Layer) : Type 0 where
  pub count_is : new.count ≡ old.count + length pairs
  pub width : length new.columns.items ≡ length old.columns.items
  pub columns : (value : ℕ) → value < length old.columns.items → GrownColumn store layer layers value pairs next (column old value) (column new value)

-- a layer whose places have only the words of a set
pub record CutLayer (store : Store) (layer : ℕ) (layers : List Layer) (set : Id) (next : List Pair) (old new : Layer) : Type 0 where
  pub count_is : new.count ≡ old.count
  pub width : length new.columns.items ≡ length old.columns.items
  pub columns : (value : ℕ) → value < length old.columns.items → CutColumn store (layer + 1) layers (λ word. has store set (value ∷ word)) next (column old value) (column new value)

-- a set before the last layer that all words of another go on in, whatever they begin with
pub record IsOnlyChild (store : Store) (layer : ℕ) (set child : Id) : Type 0 where
  pub inside : layer + 1 < length (domains_of store)
  pub is_id : IsIdAt store (layer + 1) child
  pub words : (value : ℕ) → value < slice_index (domains_of store) layer → (word : List ℕ) → has store child word ≡ has store set (value ∷ word)
