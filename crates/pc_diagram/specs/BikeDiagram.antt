-- The diagram of the bikes, and tables that are none.
use Rattle.std.specs.Prelude.{ℕ, List, [], ◌∷◌, Option, Some, None}
use Rattle.pc_diagram.specs.declared.choice.Choice.{Choice}
use Rattle.pc_diagram.specs.declared.raw_diagram.RawDiagram.{RawDiagram}

-- two edges
abbrev pub two : Option ℕ → Option ℕ → List (Option ℕ)
two first second = first ∷ second ∷ []

-- six edges
abbrev pub six : Option ℕ → Option ℕ → Option ℕ → Option ℕ → Option ℕ → Option ℕ → List (Option ℕ)
six a b c d e f = a ∷ b ∷ c ∷ d ∷ e ∷ f ∷ []

-- tables over three frames, two wheels and two lights, with one, three, two and one node
abbrev pub bike_tables : List (Option ℕ) → List (Option ℕ) → RawDiagram
bike_tables wheels lights = record {
  domains = 3 ∷ 2 ∷ 2 ∷ [];
  sizes = 1 ∷ 3 ∷ 2 ∷ 1 ∷ [];
  edges = (Some 0 ∷ Some 1 ∷ Some 2 ∷ []) ∷ wheels ∷ lights ∷ [];
}

-- the diagram of the bikes: after the first frame either wheel and no light, after the second anything, after the third
-- the second wheel and either light
abbrev pub bike_diagram : RawDiagram
bike_diagram = bike_tables (six (Some 0) (Some 0) (Some 1) (Some 1) None (Some 1)) (Some 0 ∷ None ∷ Some 0 ∷ Some 0 ∷ [])

-- the third frame is chosen
abbrev pub carbon : Choice
carbon = record { variable = 0; value = 2 }

-- a beginning or an end of two values
abbrev pub two_values : ℕ → ℕ → List ℕ
two_values first second = first ∷ second ∷ []

-- the same with the nodes of the last variable changed about
abbrev pub bike_out_of_order : RawDiagram
bike_out_of_order = bike_tables (six (Some 1) (Some 1) (Some 0) (Some 0) None (Some 0)) (Some 0 ∷ Some 0 ∷ Some 0 ∷ None ∷ [])

-- an edge of the last wheel node leads out
abbrev pub bike_edge_out : RawDiagram
bike_edge_out = bike_tables (six (Some 0) (Some 0) (Some 1) (Some 1) None (Some 2)) (Some 0 ∷ None ∷ Some 0 ∷ Some 0 ∷ [])

-- the second light node has no edge
abbrev pub bike_dead : RawDiagram
bike_dead = bike_tables (six (Some 0) (Some 0) (Some 1) (Some 1) None (Some 1)) (Some 0 ∷ None ∷ None ∷ None ∷ [])

-- no edge leads to the second light node
abbrev pub bike_unreached : RawDiagram
bike_unreached = bike_tables (six (Some 0) (Some 0) (Some 0) None None (Some 0)) (Some 0 ∷ None ∷ Some 0 ∷ Some 0 ∷ [])

-- the last table lacks an edge
abbrev pub bike_misshapen : RawDiagram
bike_misshapen = bike_tables (six (Some 0) (Some 0) (Some 1) (Some 1) None (Some 1)) (Some 0 ∷ None ∷ Some 0 ∷ [])

-- two nodes with the same edges
abbrev pub twins : RawDiagram
twins = record {
  domains = 2 ∷ 1 ∷ [];
  sizes = 1 ∷ 2 ∷ 1 ∷ [];
  edges = two (Some 0) (Some 1) ∷ two (Some 0) (Some 0) ∷ [];
}
