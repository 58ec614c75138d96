-- The edges into the nodes of a layer, seen from the end of a side.
use Rattle.std.specs.Prelude.{◌≡◌, ℕ, ◌+◌, ◌*◌, ◌-◌, ◌<◌, List, [], length, map, sum, slice_index, slice_index_or, Contains, true, Option, Some, ◌↔◌, ◌⊎◌}
use Rattle.std.specs.List.{range_with_len}
use Rattle.pc_diagram.specs.declared.raw_diagram.RawDiagram.{RawDiagram}
use Rattle.pc_diagram.specs.declared.side.Side.{Side}
use Rattle.pc_diagram.specs.declared.side.Side.TheVariants.{Heads, Tails}
use Rattle.pc_diagram.specs.Levels.{Level, edge}
use Rattle.pc_diagram.specs.NodePaths.{is_allowed}
use Rattle.pc_pareto.specs.declared.arrival.Arrival.{Arrival}

-- an arrival at a node is an edge of a variable: from the arrival's node to this one, or the other way
abbrev pub IsEdgeOf : Side → Level → ℕ → Arrival → Type 0
IsEdgeOf Heads l node arrival = edge l arrival.node arrival.value ≡ Some node
IsEdgeOf Tails l node arrival = edge l node arrival.value ≡ Some arrival.node

-- the node of the variable's own layer that has the edge
abbrev pub owner : Side → ℕ → Arrival → ℕ
owner Heads node arrival = arrival.node
owner Tails node arrival = node

-- the edge for a value of a node of the variable's layer
pub record IsSlot (side : Side) (l : Level) (own value node : ℕ) (arrival : Arrival) : Type 0 where
  pub owner_is : owner side node arrival ≡ own
  pub value_is : arrival.value ≡ value
  pub leads : IsEdgeOf side l node arrival

-- the edges of one node of the variable's layer, for the values that are allowed
pub record IsOwned (side : Side) (l : Level) (chosen : Option ℕ) (own node : ℕ) (arrival : Arrival) : Type 0 where
  pub owner_is : owner side node arrival ≡ own
  pub in_domain : arrival.value < l.domain
  pub allowed : is_allowed chosen arrival.value ≡ true
  pub leads : IsEdgeOf side l node arrival

-- the edges of the first so many nodes of the variable's layer
pub record IsArrival (side : Side) (l : Level) (chosen : Option ℕ) (nodes node : ℕ) (arrival : Arrival) : Type 0 where
  pub owned : owner side node arrival < nodes
  pub in_domain : arrival.value < l.domain
  pub allowed : is_allowed chosen arrival.value ≡ true
  pub leads : IsEdgeOf side l node arrival

-- the lists have exactly these arrivals more
abbrev pub HasAlso : (ℕ → Arrival → Type 0) → List (List Arrival) → List (List Arrival) → Type 0
HasAlso P before after =
    (length after ≡ length before) × ((node : ℕ) (arrival : Arrival) → node < length before
    → Contains (slice_index_or after node []) arrival ↔ (Contains (slice_index_or before node []) arrival ⊎ P node arrival))

-- how many nodes have arrivals of a variable: those of the next layer, or those of its own
abbrev pub target_count : Side → Level → ℕ
target_count Heads l = l.next
target_count Tails l = l.size

-- the variable between the layers at this distance from the end and at the next one
abbrev pub variable_at : Side → ℕ → ℕ → ℕ
variable_at Heads variables distance = distance
variable_at Tails variables distance = variables - (distance + 1)

-- how many slots a variable has: one for each node and value
abbrev pub slots_of : RawDiagram → ℕ → ℕ
slots_of raw variable = slice_index raw.sizes variable * slice_index raw.domains variable

-- how many slots the variables have that lie so far from the end or farther
abbrev pub slots_from : Side → RawDiagram → ℕ → ℕ
slots_from side raw distance =
    sum (map (λ k. slots_of raw (variable_at side (length raw.domains) k)) (range_with_len distance (length raw.domains - distance)))
