-- Choices of values for variables, in order.
use Rattle.std.specs.Prelude.{ℕ, ◌≡◌, ◌≢◌, List, [], ◌∷◌, Bool, true, not, ◌&&◌, ◌==◌, Option, option_map, find, filter}
use Rattle.std.specs.List.{list_any}
use Rattle.pc_diagram.specs.declared.choice.Choice.{Choice}

-- a variable is chosen
abbrev pub is_chosen : List Choice → ℕ → Bool
is_chosen choices variable = list_any (λ c. c.variable == variable) choices

-- the value chosen for a variable
abbrev pub value_of : List Choice → ℕ → Option ℕ
value_of choices variable = option_map (λ c. c.value) (find (λ c. c.variable == variable) choices)

-- choices that agree at every variable other than one
abbrev pub AgreeBeside : ℕ → List Choice → List Choice → Type 0
AgreeBeside variable choices others = (other : ℕ) → other ≢ variable → value_of choices other ≡ value_of others other

-- the choices of the other variables
abbrev pub without : List Choice → ℕ → List Choice
without choices variable = filter (λ c. not (c.variable == variable)) choices

-- no variable is chosen twice
abbrev pub are_distinct : List Choice → Bool
are_distinct [] = true
are_distinct (c ∷ choices) = not (is_chosen choices c.variable) && are_distinct choices
