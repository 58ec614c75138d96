-- What may be wrong with a statement, each as a fact about what the lines before give and this line. Of several the first is told.
use Rattle.std.specs.Prelude.{ℕ, ℤ, ◌+◌, nat_le, Bool, false, not, ◌&&◌, ◌==◌, if◌then◌else◌, List, [], ◌∷◌, length, drop, codes, Option, Some, None, is_none, Result, Ok, Err}
use Rattle.std.specs.List.{list_all, list_any}
use Rattle.std.specs.Option.{option_or}
use Rattle.pc_names.specs.Name.{is_name}
use Rattle.pc_names.specs.Number.{int_of}
use Rattle.pc_diagram.specs.declared.limits.TheConstants.{MOST_VALUES, MOST_VARIABLES}
use Rattle.pc_file.specs.declared.sizes.TheConstants.{MOST_COSTS, MOST_RULES}
use Rattle.pc_file.specs.declared.rule.Rule.{Rule}
use Rattle.pc_file.specs.declared.variable.Variable.{Variable}
use Rattle.pc_file.specs.Limits.{is_cost, is_reserved, variable_names, value_names}
use Rattle.pc_names.specs.Spelling.{same_spelling}
use Rattle.pc_text.specs.declared.keyword.Keyword.{Keyword}
use Rattle.pc_text.specs.declared.keyword.Keyword.TheVariants as keyword
use Rattle.pc_rules.specs.declared.kind.Kind.{Kind}
use Rattle.pc_rules.specs.declared.kind.Kind.TheVariants as kind
use Rattle.pc_text.specs.Keyword.{follows, expected, named}
use Rattle.pc_text.specs.Given.{Given, variables_given, argument, give_statement}

-- Faults with their kinds, in the order in which they are told: the first that stands.
abbrev pub first_standing : List (Bool × Kind) → Option Kind
first_standing [] = None
first_standing (fault ∷ faults) = if fault.0 then Some fault.1 else first_standing faults

-- the first statement isn't `product 1`
abbrev pub is_wrong_header : Given → Option Keyword → List (List ℕ) → Bool
is_wrong_header given (Some keyword.Product) arguments = is_none given.last && not ((length arguments == 1) && same_spelling (argument arguments 0) (codes "1"))
is_wrong_header given word arguments = is_none given.last

-- a statement of this kind may not come here
abbrev pub comes_wrong : Option Keyword → Option Keyword → Bool
comes_wrong None word = false
comes_wrong (Some last) word = not (follows last word)

-- the kind of that fault
abbrev pub expected_after : Option Keyword → Kind
expected_after None = kind.Header
expected_after (Some last) = expected last

-- the words after the keyword are too few or too many, or the name is misspelt or, for a variable, reserved
abbrev pub is_malformed : Given → Option Keyword → List (List ℕ) → Bool
is_malformed given (Some keyword.Cost) arguments = not ((length arguments == 1) && is_name (argument arguments 0))
is_malformed given (Some keyword.Variable) arguments = not ((length arguments == 1) && is_name (argument arguments 0) && not (is_reserved (argument arguments 0)))
is_malformed given (Some keyword.Value) arguments = not ((length arguments == length given.costs + 1) && is_name (argument arguments 0))
is_malformed given (Some keyword.End) arguments = not (length arguments == 0)
is_malformed given word arguments = false

abbrev pub kind_named : Option Keyword → Kind
kind_named None = kind.Header
kind_named (Some word) = named word

abbrev pub keeps_range : Option ℤ → Bool
keeps_range None = false
keeps_range (Some number) = is_cost number

-- a number in the range of costs
abbrev pub is_cost_text : List ℕ → Bool
is_cost_text word = keeps_range (int_of word)

-- a cost of a value is no number in range
abbrev pub has_wrong_number : Option Keyword → List (List ℕ) → Bool
has_wrong_number (Some keyword.Value) arguments = not (list_all is_cost_text (drop 1 arguments))
has_wrong_number word arguments = false

abbrev pub values_in : Option Variable → List (List ℕ)
values_in None = []
values_in (Some variable) = value_names variable

-- one cost, variable, value of its variable or rule more than there may be
abbrev pub is_one_too_many : Given → Option Keyword → Bool
is_one_too_many given (Some keyword.Cost) = nat_le MOST_COSTS (length given.costs)
is_one_too_many given (Some keyword.Variable) = nat_le MOST_VARIABLES (length (variables_given given))
is_one_too_many given (Some keyword.Value) = nat_le MOST_VALUES (length (values_in given.open_variable))
is_one_too_many given (Some keyword.Rule) = nat_le MOST_RULES (length given.rules)
is_one_too_many given word = false

-- the name was given before in its place
abbrev pub is_repeated : Given → Option Keyword → List (List ℕ) → Bool
is_repeated given (Some keyword.Cost) arguments = list_any (same_spelling (argument arguments 0)) given.costs
is_repeated given (Some keyword.Variable) arguments = list_any (same_spelling (argument arguments 0)) (variable_names (variables_given given))
is_repeated given (Some keyword.Value) arguments = list_any (same_spelling (argument arguments 0)) (values_in given.open_variable)
is_repeated given word arguments = false

-- what may be wrong with the words of a statement that may come here
abbrev pub orders_within : Given → Option Keyword → List (List ℕ) → List (Bool × Kind)
orders_within given word arguments =
    (is_malformed given word arguments, kind_named word)
    ∷ (has_wrong_number word arguments, kind.Number)
    ∷ (is_one_too_many given word, kind.Size)
    ∷ (is_repeated given word arguments, kind.Repeat)
    ∷ []

-- what may be wrong with a statement, its rule aside
abbrev pub orders : Given → Option Keyword → List (List ℕ) → List (Bool × Kind)
orders given word arguments = (is_wrong_header given word arguments, kind.Header) ∷ (comes_wrong given.last word, expected_after given.last) ∷ orders_within given word arguments

-- what is wrong with a rule
abbrev pub rule_fault : Result Rule Kind → Option Kind
rule_fault (Ok rule) = None
rule_fault (Err kind) = Some kind

-- the rule of the statement counts where it is one
abbrev pub fault_of_rule : Option Keyword → Result Rule Kind → Option Kind
fault_of_rule (Some keyword.Rule) rule = rule_fault rule
fault_of_rule word rule = None

-- a printed line that breaks a limit
abbrev pub print_fault : Option ℕ → Option Kind
print_fault None = Some kind.Size
print_fault (Some bytes) = None

-- the fault of a statement: of its words, then of its rule, then of its printed line
abbrev pub statement_fault : Given → Option Keyword → List (List ℕ) → Result Rule Kind → Option Kind
statement_fault given word arguments rule =
    option_or (first_standing (orders given word arguments)) (option_or (fault_of_rule word rule) (print_fault (give_statement given word arguments rule).printed))
