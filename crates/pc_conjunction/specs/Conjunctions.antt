-- The words of a conjunction.
use Rattle.std.specs.Prelude.{ℕ, ◌<◌, ◌≤◌, List, Bool, length, All}
use Rattle.pc_diagram.specs.declared.limits.TheConstants.{MOST_VARIABLES}
use Rattle.pc_store.specs.Layered.{IsDomain}
use Rattle.pc_conjunction.specs.declared.layer.Layer.{Layer}
use Rattle.pc_conjunction.specs.Places.{domains, accepts, IsLayered}

-- the layers of a conjunction
pub record IsConjunction (layers : List Layer) : Type 0 where
  pub some_layer : 0 < length layers
  pub few_layers : length layers ≤ MOST_VARIABLES
  pub sizes : All IsDomain (domains layers)
  pub layered : IsLayered layers

-- the numbers of values of the variables, in order
unfoldable pub conjunction_domains : List Layer → List ℕ
conjunction_domains layers = domains layers

-- a conjunction has a word: place 1 of the first layer has it
unfoldable pub contains : List Layer → List ℕ → Bool
contains layers word = accepts layers 1 word
