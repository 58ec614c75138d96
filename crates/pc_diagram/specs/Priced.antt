-- Words with their costs, by their places in a list.
use Rattle.std.specs.Prelude.{◌≡◌, ℕ, ◌<◌, List, [], map, length, slice_index_or, Option, Bool, option_map, filter, filter_map}
use Rattle.std.specs.List.{range_with_len}
use Rattle.pc_diagram.specs.declared.costs.CostPair.{CostPair}
use Rattle.pc_diagram.specs.declared.listed.Listed.{Listed}
use Rattle.pc_diagram.specs.declared.priced.Priced.{Priced}
use Rattle.pc_diagram.specs.Best.{first_best}
use Rattle.pc_diagram.specs.Costs.{cost_pair, is_cheaper}
use Rattle.pc_diagram.specs.Fitting.{takes}
use Rattle.pc_diagram.specs.Listing.{value_count}

-- the word that is meant
abbrev pub word_at : List (List ℕ) → Priced → List ℕ
word_at words priced = slice_index_or words priced.place []

-- it takes a value at a variable
abbrev pub takes_at : List (List ℕ) → ℕ → ℕ → Priced → Bool
takes_at words variable value priced = takes (word_at words priced) variable value

-- its place is in the list, and the costs are its own
pub record IsPriceOf (costs : List (List CostPair)) (words : List (List ℕ)) (priced : Priced) : Type 0 where
  pub stands : priced.place < length words
  pub costs_are : priced.pair ≡ cost_pair costs (word_at words priced)

-- one is cheaper than another
abbrev pub is_cheaper_priced : Priced → Priced → Bool
is_cheaper_priced priced other = is_cheaper priced.pair other.pair

-- the cheapest, the first of them where there are several
abbrev pub cheapest : List Priced → Option Priced
cheapest priced = first_best is_cheaper_priced priced

-- those whose words take a value at a variable
abbrev pub taking_places : List (List ℕ) → List Priced → ℕ → ℕ → List Priced
taking_places words priced variable value = filter (takes_at words variable value) priced

-- a value with a word and its costs
abbrev pub listed_at : List (List ℕ) → ℕ → Priced → Listed
listed_at words value priced =
    record { value = value; first = priced.pair.first; second = priced.pair.second; word = word_at words priced }

-- what is listed of a value
abbrev pub priced_item : List (List ℕ) → List Priced → ℕ → ℕ → Option Listed
priced_item words priced variable value =
    option_map (listed_at words value) (cheapest (taking_places words priced variable value))

-- what is listed of a variable with so many values
abbrev pub priced_items : List (List ℕ) → List Priced → ℕ → ℕ → List Listed
priced_items words priced variable count = filter_map (priced_item words priced variable) (range_with_len 0 count)

-- what is listed of each variable
abbrev pub priced_listing : List (List CostPair) → List (List ℕ) → List Priced → List (List Listed)
priced_listing costs words priced =
    map (λ variable. priced_items words priced variable (value_count costs variable)) (range_with_len 0 (length costs))
