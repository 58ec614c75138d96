-- The valid values of every variable, each with the cheapest word that takes it.
use Rattle.std.specs.Prelude.{◌≡◌, ℕ, List, [], map, length, All, Contains, Bool, true, false, slice_index_or, Option, option_map, filter, filter_map}
use Rattle.std.specs.List.{range_with_len, list_any}
use Rattle.pc_diagram.specs.declared.bounds.Bounds.{Bounds}
use Rattle.pc_diagram.specs.declared.choice.Choice.{Choice}
use Rattle.pc_diagram.specs.declared.costs.CostPair.{CostPair}
use Rattle.pc_diagram.specs.declared.listed.Listed.{Listed}
use Rattle.pc_diagram.specs.declared.which.Which.TheVariants.{First, Second}
use Rattle.pc_diagram.specs.Costs.{cost}
use Rattle.pc_diagram.specs.Fitting.{takes, fits, fitting}
use Rattle.pc_diagram.specs.Best.{best, is_cheaper_word}

-- the words that take a value at a variable
abbrev pub taking : List (List ℕ) → ℕ → ℕ → List (List ℕ)
taking words variable value = filter (λ word. takes word variable value) words

-- a value with a word and its two costs
abbrev pub listed : List (List CostPair) → ℕ → List ℕ → Listed
listed costs value word =
    record { value = value; first = cost costs First word; second = cost costs Second word; word = word }

-- what is listed of a value: the best of the words that take it, if there are any
abbrev pub item : List (List CostPair) → List (List ℕ) → ℕ → ℕ → Option Listed
item costs words variable value = option_map (listed costs value) (best costs (taking words variable value))

-- how many values a variable has
abbrev pub value_count : List (List CostPair) → ℕ → ℕ
value_count costs variable = length (slice_index_or costs variable [])

-- what is listed of a variable, by its values in order
abbrev pub items : List (List CostPair) → List (List ℕ) → ℕ → List Listed
items costs words variable = filter_map (item costs words variable) (range_with_len 0 (value_count costs variable))

-- what is listed of each variable in order, over the words that fit
abbrev pub listing : List (List CostPair) → List (List ℕ) → List Choice → Bounds → List (List Listed)
listing costs words choices bounds =
    map (items costs (fitting costs words choices bounds)) (range_with_len 0 (length costs))

-- an item of a variable names a word that fits and takes the value, its costs, and the cheapest such word
pub record IsCheapestTaking (costs : List (List CostPair)) (words : List (List ℕ)) (choices : List Choice) (bounds : Bounds) (variable : ℕ) (x : Listed) : Type 0 where
  pub is_word : Contains words x.word
  pub does_fit : fits costs x.word choices bounds ≡ true
  pub takes_value : takes x.word variable x.value ≡ true
  pub first_is : x.first ≡ cost costs First x.word
  pub second_is : x.second ≡ cost costs Second x.word
  pub none_cheaper : All (λ other. fits costs other choices bounds ≡ true → takes other variable x.value ≡ true → is_cheaper_word costs other x.word ≡ false) words

-- some word that fits takes a value at a variable
abbrev pub is_valid : List (List CostPair) → List (List ℕ) → List Choice → Bounds → ℕ → ℕ → Bool
is_valid costs words choices bounds variable value =
    list_any (λ word. takes word variable value) (fitting costs words choices bounds)

-- what is listed of one variable
abbrev pub listing_of : List (List CostPair) → List (List ℕ) → List Choice → Bounds → ℕ → List Listed
listing_of costs words choices bounds variable = slice_index_or (listing costs words choices bounds) variable []
