-- The words that fit choices and bounds.
use Rattle.std.specs.Prelude.{ℕ, List, Option, Some, None, Bool, false, ◌&&◌, ◌==◌, slice_get, filter}
use Rattle.std.specs.List.{list_all}
use Rattle.pc_diagram.specs.declared.bounds.Bounds.{Bounds}
use Rattle.pc_diagram.specs.declared.choice.Choice.{Choice}
use Rattle.pc_diagram.specs.declared.costs.CostPair.{CostPair}
use Rattle.pc_diagram.specs.Bounds.{allows_pair}
use Rattle.pc_diagram.specs.Costs.{cost_pair}

-- it is this number
abbrev pub is_number : Option ℕ → ℕ → Bool
is_number None n = false
is_number (Some m) n = m == n

-- a word takes a value at a variable
abbrev pub takes : List ℕ → ℕ → ℕ → Bool
takes word variable value = is_number (slice_get word variable) value

-- a word takes every chosen value
abbrev pub extends : List ℕ → List Choice → Bool
extends word choices = list_all (λ c. takes word c.variable c.value) choices

-- each bound that is set is at least that cost of a word
abbrev pub within : List (List CostPair) → List ℕ → Bounds → Bool
within costs word bounds = allows_pair bounds (cost_pair costs word)

-- a word extends the choices and is within the bounds
abbrev pub fits : List (List CostPair) → List ℕ → List Choice → Bounds → Bool
fits costs word choices bounds = extends word choices && within costs word bounds

-- the words that fit, in order
abbrev pub fitting : List (List CostPair) → List (List ℕ) → List Choice → Bounds → List (List ℕ)
fitting costs words choices bounds = filter (λ word. fits costs word choices bounds) words
