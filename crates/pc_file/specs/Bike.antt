-- A worked example: a bike with a frame, a wheel and a light, and two rules on them.
use Rattle.std.specs.Prelude.{ℕ, pos, List, [], ◌∷◌, ◌++◌, codes}
use Rattle.pc_file.specs.declared.variable.Value.{Value}
use Rattle.pc_file.specs.declared.variable.Variable.{Variable}
use Rattle.pc_file.specs.declared.rule.Rule.TheVariants.{Is, Not, And, Implies}
use Rattle.pc_file.specs.Limits.{Contents}

-- a value with its price and the days to wait
abbrev pub option : List ℕ → ℕ → ℕ → Value
option name price days = record { name = name; first = pos price; second = pos days }

-- a part to pick with its values
abbrev pub part : List ℕ → List Value → Variable
part name values = record { name = name; values = values }

-- three frames, two wheels, and no light or one; the third frame wants the second wheel, and the first takes no light
abbrev pub bike : Contents
bike = record {
  costs = codes "price" ∷ codes "days" ∷ [];
  variables =
      part (codes "frame") (option (codes "steel") 300 2 ∷ option (codes "alloy") 500 1 ∷ option (codes "carbon") 900 5 ∷ [])
      ∷ part (codes "wheel") (option (codes "w26") 80 1 ∷ option (codes "w28") 120 1 ∷ [])
      ∷ part (codes "light") (option (codes "none") 0 0 ∷ option (codes "led") 40 1 ∷ [])
      ∷ [];
  rules = Implies (Is 0 2) (Is 1 1) ∷ Not (And (Is 0 0 ∷ Is 2 1 ∷ [])) ∷ [];
}

-- a line with its line feed
abbrev line : List ℕ → List ℕ
line text = text ++ 10 ∷ []

-- what is listed of it with no choice and no bound
abbrev pub bike_text : List ℕ
bike_text =
    line (codes "var frame")
    ++ line (codes "val steel 380 3 : steel w26 none")
    ++ line (codes "val alloy 580 2 : alloy w26 none")
    ++ line (codes "val carbon 1020 6 : carbon w28 none")
    ++ line (codes "var wheel")
    ++ line (codes "val w26 380 3 : steel w26 none")
    ++ line (codes "val w28 420 3 : steel w28 none")
    ++ line (codes "var light")
    ++ line (codes "val none 380 3 : steel w26 none")
    ++ line (codes "val led 620 3 : alloy w26 led")

-- its printed form
abbrev pub bike_printed : List ℕ
bike_printed =
    line (codes "product 1")
    ++ line (codes "cost price")
    ++ line (codes "cost days")
    ++ line (codes "variable frame")
    ++ line (codes "value steel 300 2")
    ++ line (codes "value alloy 500 1")
    ++ line (codes "value carbon 900 5")
    ++ line (codes "variable wheel")
    ++ line (codes "value w26 80 1")
    ++ line (codes "value w28 120 1")
    ++ line (codes "variable light")
    ++ line (codes "value none 0 0")
    ++ line (codes "value led 40 1")
    ++ line (codes "rule frame=carbon => wheel=w28")
    ++ line (codes "rule not (frame=steel and light=led)")
    ++ line (codes "end")
