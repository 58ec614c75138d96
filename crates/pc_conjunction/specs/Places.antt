-- Layers of places, and the words that places have.
use Rattle.std.specs.Prelude.{◌≡◌, ℕ, ◌<◌, ◌==◌, List, [], ◌∷◌, Bool, false, length, map, replicate, All, slice_index_or}
use Rattle.pc_conjunction.specs.declared.layer.Layer.{Layer}

-- where each place of a layer goes on after a value
abbrev pub column : Layer → ℕ → List ℕ
column layer value = slice_index_or layer.columns.items value []

-- where a place goes on after a value. Past the end of a column, and of the columns, stands place 0
abbrev pub entry : Layer → ℕ → ℕ → ℕ
entry layer place value = slice_index_or (column layer value) place 0

-- how many places the first layer has. Below the last layer stand two: 0, without a word, and 1, with the empty word
abbrev pub place_count : List Layer → ℕ
place_count [] = 2
place_count (layer ∷ layers) = layer.count

-- how many values each variable takes
abbrev pub domains : List Layer → List ℕ
domains layers = map (λ layer. length layer.columns.items) layers

-- a place of the first layer has a word
abbrev pub accepts : List Layer → ℕ → List ℕ → Bool
accepts [] place [] = place == 1
accepts [] place (value ∷ word) = false
accepts (layer ∷ layers) place [] = false
accepts (layer ∷ layers) place (value ∷ word) = accepts layers (entry layer place value) word

-- where so many places go on after a value: place 0 in place 0, and each in one of so many places of the next layer
pub record IsColumn (count below : ℕ) (places : List ℕ) : Type 0 where
  pub width : length places ≡ count
  pub empty : slice_index_or places 0 0 ≡ 0
  pub within : All (λ place. place < below) places

-- a layer over another with so many places: places 0 and 1 are there
pub record IsLayer (below : ℕ) (layer : Layer) : Type 0 where
  pub two : 1 < layer.count
  pub columns : All (IsColumn layer.count below) layer.columns.items

-- each layer is one over those below it
abbrev pub IsLayered : List Layer → Type 0
IsLayered [] = Unit {0}
IsLayered (layer ∷ layers) = IsLayer (place_count layers) layer × IsLayered layers

-- a layer of a variable with so many values: place 0 goes on in place 0 and place 1 in place 1
pub record IsNewLayer (domain : ℕ) (layer : Layer) : Type 0 where
  pub count_is : layer.count ≡ 2
  pub columns_are : layer.columns.items ≡ replicate domain (0 ∷ 1 ∷ [])
