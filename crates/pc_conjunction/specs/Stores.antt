-- The sets of places in a store.
use Rattle.std.specs.Prelude.{◌≡◌, ℕ, ◌<◌, List, Bool, true, length, map, All, slice_index_or}
use Rattle.pc_store.specs.declared.id.Id.{Id}
use Rattle.pc_store.specs.declared.store.Store.{Store}
use Rattle.pc_store.specs.Sets.{IsIdAt, has, leads}
use Rattle.pc_conjunction.specs.declared.layer.Layer.{Layer}
use Rattle.pc_conjunction.specs.Places.{place_count, accepts}
use Rattle.pc_conjunction.specs.Reached.{is_marked}

-- a set for each place of the first layer, with the words of the place if it is marked
pub record ArePlaces (store : Store) (layer : ℕ) (layers : List Layer) (marks : List Bool) (sets : List Id) : Type 0 where
  pub count_is : length sets ≡ place_count layers
  pub ids : All (IsIdAt store layer) sets
  pub words : (place : ℕ) (d : Id) → place < length sets → is_marked marks place ≡ true → (word : List ℕ) → has store (slice_index_or sets place d) word ≡ accepts layers place word

-- the sets that a place goes on in after each value
abbrev pub goes_on : List (List ℕ) → List Id → ℕ → List Id
goes_on columns below place = map (λ places. slice_index_or below (slice_index_or places place 0) (record { layer = 0; node = 0 })) columns

-- a set for each of the first places of a layer, by the sets that it goes on in if it is marked
pub record AreOver (old new : Store) (layer : ℕ) (columns : List (List ℕ)) (below : List Id) (marks : List Bool) (count : ℕ) (sets : List Id) : Type 0 where
  pub count_is : length sets ≡ count
  pub ids : All (IsIdAt new layer) sets
  pub words : (place : ℕ) (d : Id) → place < length sets → is_marked marks place ≡ true → (word : List ℕ) → has new (slice_index_or sets place d) word ≡ leads old (goes_on columns below place) word
