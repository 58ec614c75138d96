-- The paths of the nodes of a diagram: from the root to a node, and from a node to the end.
use Rattle.std.specs.Prelude.{◌≡◌, ℕ, ◌+◌, ◌<◌, ◌==◌, nat_lt, List, [], ◌∷◌, length, map, filter, take, drop, slice_index, All, Bool, true, false, ◌&&◌, ◌||◌, Option, Some, None}
use Rattle.pc_diagram.specs.declared.choice.Choice.{Choice}
use Rattle.pc_diagram.specs.declared.costs.CostPair.{CostPair}
use Rattle.pc_diagram.specs.declared.raw_diagram.RawDiagram.{RawDiagram}
use Rattle.pc_diagram.specs.Best.{is_cheaper_word}
use Rattle.pc_diagram.specs.Choices.{value_of}
use Rattle.pc_diagram.specs.Costs.{IsPriced}
use Rattle.pc_diagram.specs.Fitting.{is_number}
use Rattle.pc_diagram.specs.Levels.{Level, levels, edge}
use Rattle.pc_diagram.specs.Paths.{accepts}
use Rattle.pc_diagram.specs.Words.{is_word, all_words}

-- the node that values lead to from a node of the first of these levels, if there are as many values as levels and an edge
-- for each
abbrev pub leads_to : List Level → Option ℕ → List ℕ → Option ℕ
leads_to [] start [] = start
leads_to [] start (value ∷ word) = None
leads_to (l ∷ ls) start [] = None
leads_to (l ∷ ls) None (value ∷ word) = None
leads_to (l ∷ ls) (Some node) (value ∷ word) = leads_to ls (edge l node value) word

-- the value chosen for a variable, or any value where none is chosen
abbrev pub is_allowed : Option ℕ → ℕ → Bool
is_allowed None value = true
is_allowed (Some chosen) value = chosen == value

-- values of this variable and of those after it, in order, agree with choices: each is the chosen one where one is chosen
abbrev pub agrees : List Choice → ℕ → List ℕ → Bool
agrees choices variable [] = true
agrees choices variable (value ∷ word) = is_allowed (value_of choices variable) value && agrees choices (variable + 1) word

-- the values are those along a path from the root to a node of a layer, and agree with the choices
abbrev pub is_head : RawDiagram → List Choice → ℕ → ℕ → List ℕ → Bool
is_head raw choices layer node word = is_number (leads_to (take layer (levels raw)) (Some 0) word) node && agrees choices 0 word

-- the values are those along a path from a node of a layer to the end, and agree with the choices
abbrev pub is_tail : RawDiagram → List Choice → ℕ → ℕ → List ℕ → Bool
is_tail raw choices layer node word = accepts (drop layer (levels raw)) (Some node) word && agrees choices layer word

-- the heads of a node of a layer, in lexicographic order; a head costs what its values cost: cost_pair costs head
abbrev pub heads : RawDiagram → List Choice → ℕ → ℕ → List (List ℕ)
heads raw choices layer node = filter (is_head raw choices layer node) (all_words (take layer raw.domains))

-- the tails of a node of a layer, in lexicographic order; a tail costs what its values cost, of the variables from the layer
-- on: cost_pair (drop layer costs) tail
abbrev pub tails : RawDiagram → List Choice → ℕ → ℕ → List (List ℕ)
tails raw choices layer node = filter (is_tail raw choices layer node) (all_words (drop layer raw.domains))

-- one word comes before another by its values, the first of them first
abbrev pub comes_before : List ℕ → List ℕ → Bool
comes_before [] [] = false
comes_before [] (value ∷ word) = true
comes_before (value ∷ word) [] = false
comes_before (value ∷ word) (other ∷ others) = nat_lt value other || value == other && comes_before word others

-- a word that passes a test, none that passes is cheaper, and none that passes and isn't dearer comes before it
pub record IsLeast (costs : List (List CostPair)) (test : List ℕ → Bool) (domains word : List ℕ) : Type 0 where
  pub over : is_word domains word ≡ true
  pub passes : test word ≡ true
  pub unbeaten : (other : List ℕ) → is_word domains other ≡ true → test other ≡ true → is_cheaper_word costs other word ≡ false
  pub first : (other : List ℕ) → is_word domains other ≡ true → test other ≡ true → is_cheaper_word costs word other ≡ false → comes_before other word ≡ false

-- the costs of a diagram's values: a pair for each, in range
pub record AreCostsOf (domains : List ℕ) (costs : List (List CostPair)) : Type 0 where
  pub pairs : map length costs ≡ domains
  pub priced : IsPriced costs

-- a choice of one of a diagram's values
abbrev pub IsChoiceOf : List ℕ → Choice → Type 0
IsChoiceOf domains choice = (choice.variable < length domains) × (choice.value < slice_index domains choice.variable)

-- choices of a diagram's values
abbrev pub AreChoicesOf : List ℕ → List Choice → Type 0
AreChoicesOf domains choices = All (IsChoiceOf domains) choices
