-- The worked example of a session that moves: the bike, it before its rules, and a smaller one.
use Rattle.std.specs.Prelude.{ℕ, pos, codes, [], ◌∷◌, Some, None}
use Rattle.pc_diagram.specs.declared.bounds.Bounds.{Bounds}
use Rattle.pc_diagram.specs.declared.choice.Choice.{Choice}
use Rattle.pc_diagram.specs.Bounds.{no_bounds}
use Rattle.pc_file.specs.Bike.{bike, option, part}
use Rattle.pc_file.specs.Contents.{Contents}
use Rattle.pc_calls.specs.Selection.{Selection}

-- the bike, whatever its parts are
abbrev pub loose_bike : Contents
loose_bike = record { costs = bike.costs; variables = bike.variables; rules = [] }

-- a bike of which only the frame is picked, and none of carbon
abbrev pub small_bike : Contents
small_bike = record {
  costs = bike.costs;
  variables = part (codes "frame") (option (codes "steel") 300 2 ∷ option (codes "alloy") 500 1 ∷ []) ∷ [];
  rules = [];
}

abbrev chosen : ℕ → ℕ → Choice
chosen variable value = record { variable = variable; value = value }

-- at most two days to wait
abbrev two_days : Bounds
two_days = record { first = None; second = Some (pos 2) }

-- a carbon frame
abbrev pub carbon : Selection
carbon = record { choices = chosen 0 2 ∷ []; bounds = no_bounds }

-- a steel frame, and a light
abbrev pub steel_led : Selection
steel_led = record { choices = chosen 0 0 ∷ chosen 2 1 ∷ []; bounds = no_bounds }

-- a steel frame
abbrev pub steel : Selection
steel = record { choices = chosen 0 0 ∷ []; bounds = no_bounds }

-- a steel frame within two days, and anything within two days
abbrev pub soon_steel : Selection
soon_steel = record { choices = chosen 0 0 ∷ []; bounds = two_days }

abbrev pub soon : Selection
soon = record { choices = []; bounds = two_days }
