-- The file that the generator makes, by the number of its variables.
use Rattle.std.specs.Prelude.{ℕ, pos, ◌+◌, ◌-◌, ◌*◌, List, [], ◌∷◌, ◌++◌, map, codes, decimal}
use Rattle.std.specs.List.{range_with_len}
use Rattle.pc_file.specs.declared.variable.Value.{Value}
use Rattle.pc_file.specs.declared.variable.Variable.{Variable}
use Rattle.pc_file.specs.declared.rule.Rule.{Rule}
use Rattle.pc_file.specs.declared.rule.Rule.TheVariants.{Is, Not, And}
use Rattle.pc_file.specs.Contents.{Contents}

-- the value of a number: `v` and the number, with a price of 10 times it, and 7 days less it
abbrev pub numbered_value : ℕ → Value
numbered_value number = record { name = codes "v" ++ decimal number; first = pos (10 * number); second = pos (7 - number) }

-- `v0` to `v7`
abbrev pub eight_values : List Value
eight_values = map numbered_value (range_with_len 0 8)

-- the variable of a number: `x` and the number, with the eight values
abbrev pub numbered_variable : ℕ → Variable
numbered_variable number = record { name = codes "x" ++ decimal number; values = eight_values }

-- the variable at a place and the next one don't both take their first value
abbrev pub neighbour_rule : ℕ → Rule
neighbour_rule place = Not (And (Is place 0 ∷ Is (place + 1) 0 ∷ []))

-- `price` and `days`, the variables `x1`, `x2` and so on, and the rule for each two neighbours
unfoldable pub generated : ℕ → Contents
generated variables = record {
  costs = codes "price" ∷ codes "days" ∷ [];
  variables = map numbered_variable (range_with_len 1 variables);
  rules = map neighbour_rule (range_with_len 0 (variables - 1));
}
