-- The printed form of a file: the one text by which it is written.
use Rattle.std.specs.Prelude.{ℕ, List, [], ◌∷◌, ◌++◌, length, map, take, codes}
use Rattle.std.specs.Fmt.{signed_decimal}
use Rattle.std.specs.List.{flat_map, join_by}
use Rattle.pc_file.specs.declared.variable.Value.{Value}
use Rattle.pc_file.specs.declared.variable.Variable.{Variable}
use Rattle.pc_file.specs.declared.rule.Rule.{Rule}
use Rattle.pc_file.specs.Contents.{Contents}
use Rattle.pc_file.specs.PrintedRule.{printed_rule}

-- words parted by one space
abbrev pub line_of : List (List ℕ) → List ℕ
line_of = join_by (λ word. word) (codes " ")

-- `product 1`
abbrev pub header_line : List ℕ
header_line = line_of (codes "product" ∷ codes "1" ∷ [])

-- `cost NAME`
abbrev pub cost_line : List ℕ → List ℕ
cost_line name = line_of (codes "cost" ∷ name ∷ [])

-- `variable NAME`
abbrev pub variable_line : List ℕ → List ℕ
variable_line name = line_of (codes "variable" ∷ name ∷ [])

-- `value NAME NUMBER` or `value NAME NUMBER NUMBER`, with as many numbers as the file has costs
abbrev pub value_line : ℕ → Value → List ℕ
value_line costs value = line_of (codes "value" ∷ value.name ∷ take costs (signed_decimal value.first ∷ signed_decimal value.second ∷ []))

-- `rule` and the printed rule
abbrev pub rule_line : List Variable → Rule → List ℕ
rule_line variables rule = line_of (codes "rule" ∷ printed_rule variables rule ∷ [])

-- `end`
abbrev pub end_line : List ℕ
end_line = line_of (codes "end" ∷ [])

-- the line of a variable, and those of its values
abbrev pub variable_lines : ℕ → Variable → List (List ℕ)
variable_lines costs variable = variable_line variable.name ∷ map (value_line costs) variable.values

-- the lines of a file in order, each without its line feed
abbrev pub printed_lines : Contents → List (List ℕ)
printed_lines file =
    header_line
    ∷ map cost_line file.costs
    ++ (flat_map (variable_lines (length file.costs)) file.variables ++ (map (rule_line file.variables) file.rules ++ end_line ∷ []))

-- a line with its line feed
abbrev pub with_feed : List ℕ → List ℕ
with_feed line = line ++ 10 ∷ []

-- lines as a text, each with its line feed
abbrev pub text_of_lines : List (List ℕ) → List ℕ
text_of_lines = flat_map with_feed

-- the text of a file
abbrev pub printed : Contents → List ℕ
printed file = text_of_lines (printed_lines file)
