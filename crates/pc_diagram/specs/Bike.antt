-- A worked example: a bike with a frame, a wheel and a light, each with a price and days to wait.
use Rattle.std.specs.Prelude.{ℕ, pos, List, [], ◌∷◌, Some, None}
use Rattle.pc_diagram.specs.declared.bounds.Bounds.{Bounds}
use Rattle.pc_diagram.specs.declared.choice.Choice.{Choice}
use Rattle.pc_diagram.specs.declared.costs.CostPair.{CostPair}
use Rattle.pc_diagram.specs.declared.listed.Listed.{Listed}

-- the pair of two costs
abbrev pub pair : ℕ → ℕ → CostPair
pair price days = record { first = pos price; second = pos days }

-- three frames, two wheels, and no light or one
abbrev pub bike_costs : List (List CostPair)
bike_costs =
    (pair 300 2 ∷ pair 500 1 ∷ pair 900 5 ∷ []) ∷ (pair 80 1 ∷ pair 120 1 ∷ []) ∷ (pair 0 0 ∷ pair 40 1 ∷ []) ∷ []

-- a word of three values
abbrev pub three : ℕ → ℕ → ℕ → List ℕ
three frame wheel light = frame ∷ wheel ∷ light ∷ []

-- the eight bikes that can be built
abbrev pub bikes : List (List ℕ)
bikes =
    three 0 0 0 ∷ three 0 1 0 ∷ three 1 0 0 ∷ three 1 0 1 ∷ three 1 1 0 ∷ three 1 1 1 ∷ three 2 1 0 ∷ three 2 1 1 ∷ []

-- a listed value
abbrev pub line : ℕ → ℕ → ℕ → List ℕ → Listed
line value price days word = record { value = value; first = pos price; second = pos days; word = word }

-- what is listed with no choice and no bound
abbrev pub open_listing : List (List Listed)
open_listing =
    (line 0 380 3 (three 0 0 0) ∷ line 1 580 2 (three 1 0 0) ∷ line 2 1020 6 (three 2 1 0) ∷ [])
    ∷ (line 0 380 3 (three 0 0 0) ∷ line 1 420 3 (three 0 1 0) ∷ [])
    ∷ (line 0 380 3 (three 0 0 0) ∷ line 1 620 3 (three 1 0 1) ∷ [])
    ∷ []

-- at most two days
abbrev pub two_days : Bounds
two_days = record { first = None; second = Some (pos 2) }

-- what is listed of at most two days
abbrev pub two_days_listing : List (List Listed)
two_days_listing =
    (line 1 580 2 (three 1 0 0) ∷ [])
    ∷ (line 0 580 2 (three 1 0 0) ∷ line 1 620 2 (three 1 1 0) ∷ [])
    ∷ (line 0 580 2 (three 1 0 0) ∷ [])
    ∷ []

-- the second frame is chosen
abbrev pub alloy : Choice
alloy = record { variable = 0; value = 1 }

-- what is listed once it is
abbrev pub alloy_listing : List (List Listed)
alloy_listing =
    (line 1 580 2 (three 1 0 0) ∷ [])
    ∷ (line 0 580 2 (three 1 0 0) ∷ line 1 620 2 (three 1 1 0) ∷ [])
    ∷ (line 0 580 2 (three 1 0 0) ∷ line 1 620 3 (three 1 0 1) ∷ [])
    ∷ []
