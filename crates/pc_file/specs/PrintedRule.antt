-- The printed form of a rule, with parentheses exactly where a place asks for more strength than its member has.
use Rattle.std.specs.Prelude.{ℕ, nat_lt, if◌then◌else◌, List, [], ◌++◌, codes, option_map, slice_get, unwrap_or}
use Rattle.std.specs.Fmt.{decimal}
use Rattle.std.specs.List.{join_by, zip}
use Rattle.pc_file.specs.declared.variable.Variable.{Variable}
use Rattle.pc_file.specs.declared.rule.Rule.{Rule}
use Rattle.pc_file.specs.declared.rule.Rule.TheOpen.{Rule-F, Is, IsNot, OneOf, Not, And, Or, Implies, Same, AtMost, Table}
use Rattle.pc_file.specs.declared.rule.Rule.TheFolds.{fold-Rule}
use Rattle.pc_file.specs.Names.{value_name}
use Rattle.pc_file.specs.Nesting.{strength_of}

-- the name of a variable; nothing where there is no such variable
abbrev pub printed_variable : List Variable → ℕ → List ℕ
printed_variable variables variable = unwrap_or (option_map (λ v. v.name) (slice_get variables variable)) []

-- the name of a value of a variable; nothing where there is no such value
abbrev pub printed_value : List Variable → ℕ → ℕ → List ℕ
printed_value variables variable value = unwrap_or (value_name variables variable value) []

-- a row of a table: the names of its values, each of its own variable, parted by one space
abbrev pub printed_row : List Variable → List ℕ → List ℕ → List ℕ
printed_row variables these row = join_by (λ p. printed_value variables p.0 p.1) (codes " ") (zip these row)

-- how much a printed rule binds, and its text
pub record Printed : Type 0 where
  pub strength : ℕ
  pub text : List ℕ

-- the text of a rule in a place that asks for a strength
abbrev pub in_place : ℕ → Printed → List ℕ
in_place asked rule = if nat_lt rule.strength asked then codes "(" ++ rule.text ++ codes ")" else rule.text

-- One layer of a rule, with the printed form of each subrule in its place.
abbrev pub text_of : List Variable → Rule-F Printed → List ℕ
text_of variables (Is variable value) = printed_variable variables variable ++ codes "=" ++ printed_value variables variable value
text_of variables (IsNot variable value) = printed_variable variables variable ++ codes "!=" ++ printed_value variables variable value
text_of variables (OneOf variable values) =
    printed_variable variables variable ++ codes " in {" ++ join_by (printed_value variables variable) (codes ", ") values ++ codes "}"
text_of variables (Not rule) = codes "not " ++ in_place 4 rule
text_of variables (And rules) = join_by (in_place 3) (codes " and ") rules
text_of variables (Or rules) = join_by (in_place 2) (codes " or ") rules
text_of variables (Implies rule consequence) = in_place 1 rule ++ codes " => " ++ in_place 1 consequence
text_of variables (Same variable other) = codes "same(" ++ printed_variable variables variable ++ codes ", " ++ printed_variable variables other ++ codes ")"
text_of variables (AtMost most rules) = codes "atmost " ++ decimal most ++ codes " (" ++ join_by (in_place 0) (codes ", ") rules ++ codes ")"
text_of variables (Table these rows) =
    codes "table (" ++ join_by (printed_variable variables) (codes ", ") these ++ codes ") {" ++ join_by (printed_row variables these) (codes ", ") rows ++ codes "}"

abbrev pub printing_step : List Variable → Rule-F Printed → Printed
printing_step variables rule = record { strength = strength_of rule; text = text_of variables rule }

abbrev pub printing : List Variable → Rule → Printed
printing variables = fold-Rule Printed (printing_step variables)

-- a rule as a part of a rule, in a place that asks for a strength
abbrev pub printed_in_place : ℕ → List Variable → Rule → List ℕ
printed_in_place asked variables rule = in_place asked (printing variables rule)

-- a whole rule over the names of variables and their values
abbrev pub printed_rule : List Variable → Rule → List ℕ
printed_rule variables rule = (printing variables rule).text
