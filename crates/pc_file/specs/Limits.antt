-- Which costs, variables and rules make a file.
use Rattle.std.specs.Prelude.{◌≡◌, ℕ, ℤ, pos, neg_ℤ, int_le, ◌≤◌, nat_le, ◌==◌, ◌+◌, Bool, true, not, ◌&&◌, ◌||◌, List, [], ◌∷◌, length, map, codes, is_some}
use Rattle.std.specs.List.{list_all, list_any, zip}
use Rattle.std.specs.Ordering.{int_eq}
use Rattle.pc_names.specs.Spelling.{same_spelling}
use Rattle.pc_base.specs.Distinct.{all_differ}
use Rattle.pc_diagram.specs.declared.limits.TheConstants.{MOST_VALUES, MOST_VARIABLES}
use Rattle.pc_file.specs.declared.sizes.TheConstants.{MOST_COST, MOST_COSTS, MOST_MEMBERS, MOST_OPEN, MOST_RULES}
use Rattle.pc_file.specs.declared.variable.Value.{Value}
use Rattle.pc_file.specs.declared.variable.Variable.{Variable}
use Rattle.pc_file.specs.declared.rule.Rule.{Rule}
use Rattle.pc_file.specs.declared.rule.Rule.TheOpen.{Rule-F, Is, IsNot, OneOf, Not, And, Or, Implies, Same, AtMost, Table}
use Rattle.pc_file.specs.declared.rule.Rule.TheFolds.{fold-Rule}
use Rattle.pc_file.specs.Names.{value_name}
use Rattle.pc_file.specs.Nesting.{nesting}
pub use Rattle.pc_file.specs.Contents.{Contents}
use Rattle.pc_file.specs.PrintedSize.{IsPrintable}

-- the words of the rule language, which name no variable
abbrev pub reserved_words : List (List ℕ)
reserved_words = codes "and" ∷ codes "or" ∷ codes "not" ∷ codes "in" ∷ codes "same" ∷ codes "atmost" ∷ codes "table" ∷ []

abbrev pub is_reserved : List ℕ → Bool
is_reserved name = list_any (same_spelling name) reserved_words

-- a cost of a value is at most so far away from 0
abbrev pub is_cost : ℤ → Bool
is_cost cost = int_le (neg_ℤ MOST_COST) cost && int_le cost MOST_COST

-- the costs of a value in a file of so many costs
abbrev pub is_value : ℕ → Value → Bool
is_value costs value = is_cost value.first && is_cost value.second && (costs == 2 || int_eq value.second (pos 0))

-- a variable has at least one value, and not too many
abbrev pub is_sized : Variable → Bool
is_sized variable = nat_le 1 (length variable.values) && nat_le (length variable.values) MOST_VALUES

-- the name and the values of a variable in a file of so many costs
abbrev pub is_variable : ℕ → Variable → Bool
is_variable costs variable = not (is_reserved variable.name) && is_sized variable && list_all (is_value costs) variable.values

-- the names of a variable's values
abbrev pub value_names : Variable → List (List ℕ)
value_names variable = map (λ value. value.name) variable.values

abbrev pub variable_names : List Variable → List (List ℕ)
variable_names variables = map (λ variable. variable.name) variables

-- no two values of one variable have one name
abbrev pub values_differ : Variable → Bool
values_differ variable = all_differ same_spelling (value_names variable)

-- no two variables have one name, and no two values of one variable
abbrev pub names_differ : List Variable → Bool
names_differ variables = all_differ same_spelling (variable_names variables) && list_all values_differ variables

abbrev pub has_variable : List Variable → ℕ → Bool
has_variable variables variable = nat_le (variable + 1) (length variables)

abbrev pub has_value : List Variable → ℕ → ℕ → Bool
has_value variables variable value = is_some (value_name variables variable value)

-- a row of a table has a value of each of the table's variables
abbrev pub is_row : List Variable → List ℕ → List ℕ → Bool
is_row variables these row = (length row == length these) && list_all (λ p. has_value variables p.0 p.1) (zip these row)

-- One layer of a rule, with whether each subrule in its place can be spelled and names only what is there.
abbrev pub is_spelled_step : List Variable → Rule-F Bool → Bool
is_spelled_step variables (Is variable value) = has_value variables variable value
is_spelled_step variables (IsNot variable value) = has_value variables variable value
is_spelled_step variables (OneOf variable values) = nat_le 1 (length values) && list_all (has_value variables variable) values && all_differ ◌==◌ values
is_spelled_step variables (Not rule) = rule
is_spelled_step variables (And rules) = nat_le 2 (length rules) && list_all (λ spelled. spelled) rules
is_spelled_step variables (Or rules) = nat_le 2 (length rules) && list_all (λ spelled. spelled) rules
is_spelled_step variables (Implies rule consequence) = rule && consequence
is_spelled_step variables (Same variable other) = has_variable variables variable && has_variable variables other
is_spelled_step variables (AtMost most rules) = nat_le most MOST_MEMBERS && nat_le 1 (length rules) && nat_le (length rules) MOST_MEMBERS && list_all (λ spelled. spelled) rules
is_spelled_step variables (Table these rows) =
    nat_le 1 (length these) && list_all (has_variable variables) these && all_differ ◌==◌ these && nat_le 1 (length rows) && list_all (is_row variables these) rows

abbrev pub is_spelled : List Variable → Rule → Bool
is_spelled variables = fold-Rule Bool (is_spelled_step variables)

-- no more parentheses are open at once in its printed form than may be
abbrev pub is_shallow : Rule → Bool
is_shallow rule = nat_le (nesting rule).open_at_most MOST_OPEN

abbrev pub is_rule : List Variable → Rule → Bool
is_rule variables rule = is_spelled variables rule && is_shallow rule

-- What a file keeps.
pub record IsFile (file : Contents) : Type 0 where
  pub some_cost : 1 ≤ length file.costs
  pub costs_at_most : length file.costs ≤ MOST_COSTS
  pub costs_differ : all_differ same_spelling file.costs ≡ true
  pub some_variable : 1 ≤ length file.variables
  pub variables_at_most : length file.variables ≤ MOST_VARIABLES
  pub names_differ : names_differ file.variables ≡ true
  pub each_variable : list_all (is_variable (length file.costs)) file.variables ≡ true
  pub rules_at_most : length file.rules ≤ MOST_RULES
  pub each_rule : list_all (is_rule file.variables) file.rules ≡ true
  pub printable : IsPrintable file
