-- What the statements so far give: the beginning of a file.
use Rattle.std.specs.Prelude.{ℕ, ℤ, pos, Bool, List, [], ◌∷◌, ◌++◌, length, map, slice_index, slice_index_or, ◌==◌, ◌||◌, Option, Some, None, option_map, option_and_then, Result, Ok, Err}
use Rattle.std.specs.Option.{unwrap_or, option_to_list}
use Rattle.pc_names.specs.Number.{int_of}
use Rattle.pc_file.specs.declared.catalogue.Catalogue.{Catalogue}
use Rattle.pc_file.specs.declared.rule.Rule.{Rule}
use Rattle.pc_file.specs.declared.variable.Value.{Value}
use Rattle.pc_file.specs.declared.variable.Variable.{Variable}
use Rattle.pc_file.specs.Limits.{Contents, variable_names, value_names}
use Rattle.pc_file.specs.PrintedForm.{header_line, cost_line, variable_line, value_line, rule_line, end_line}
use Rattle.pc_file.specs.PrintedSize.{with_line}
use Rattle.pc_text.specs.declared.keyword.Keyword.{Keyword}
use Rattle.pc_text.specs.declared.keyword.Keyword.TheVariants as keyword
use Rattle.pc_rules.specs.declared.kind.Kind.{Kind}
use Rattle.pc_text.specs.Keyword.{keyword_of}
use Rattle.pc_names.specs.LineWords.{words, first_word, after_word}

-- The keyword of the last statement, the costs, the variables whose values are all given, the variable whose values are being given, and the rules; and the bytes
-- of the printed lines of the statements, with their line feeds, or nothing where they break a limit of the printed form.
pub record Given : Type 0 where
  pub last : Option Keyword
  pub costs : List (List ℕ)
  pub closed : List Variable
  pub open_variable : Option Variable
  pub rules : List Rule
  pub printed : Option ℕ

-- before the first statement
abbrev pub nothing_given : Given
nothing_given = record { last = None; costs = []; closed = []; open_variable = None; rules = []; printed = Some 0 }

-- all variables so far
abbrev pub variables_given : Given → List Variable
variables_given given = given.closed ++ option_to_list given.open_variable

-- the file, once the last statement is given
abbrev pub contents_given : Given → Contents
contents_given given = record { costs = given.costs; variables = variables_given given; rules = given.rules }

-- the names of these variables and of their values
abbrev pub catalogue_of : List Variable → Catalogue
catalogue_of variables = record { variables = variable_names variables; values = map value_names variables }

-- a line without words, or one whose first word begins with `#`
abbrev pub is_skipped : List ℕ → Bool
is_skipped line = (length (first_word line) == 0) || (slice_index (first_word line) 0 == 35)

-- what a statement is about
abbrev pub keyword_at : List ℕ → Option Keyword
keyword_at line = keyword_of (first_word line)

-- the words after the first
abbrev pub arguments_at : List ℕ → List (List ℕ)
arguments_at line = words (after_word line)

-- the words after a keyword; none after `rule`, whose text is read as a whole
abbrev pub arguments_of : Option Keyword → List (List ℕ) → List (List ℕ)
arguments_of (Some keyword.Rule) words = []
arguments_of word words = words

-- the argument at a place, or nothing
abbrev pub argument : List (List ℕ) → ℕ → List ℕ
argument arguments place = slice_index_or arguments place []

-- the number that an argument spells
abbrev pub number_at : List (List ℕ) → ℕ → ℤ
number_at arguments place = unwrap_or (int_of (argument arguments place)) (pos 0)

-- the value that a name and one or two numbers give
abbrev pub value_given : List (List ℕ) → Value
value_given arguments = record { name = argument arguments 0; first = number_at arguments 1; second = number_at arguments 2 }

abbrev pub with_value : Value → Variable → Variable
with_value value variable = record { name = variable.name; values = variable.values ++ value ∷ [] }

-- the bytes with one printed line more; nothing where that breaks a limit
abbrev pub print_more : Option ℕ → List ℕ → Option ℕ
print_more printed line = option_and_then (λ bytes. with_line bytes (length line)) printed

-- one value more of the open variable
abbrev pub give_value : Given → Value → Given
give_value given value =
    record given {
      last = Some keyword.Value;
      open_variable = option_map (with_value value) given.open_variable;
      printed = print_more given.printed (value_line (length given.costs) value);
    }

-- one statement more, which is no rule
abbrev pub give : Given → Option Keyword → List (List ℕ) → Given
give given (Some keyword.Product) arguments = record given { last = Some keyword.Product; printed = print_more given.printed header_line }
give given (Some keyword.Cost) arguments =
    record given { last = Some keyword.Cost; costs = given.costs ++ argument arguments 0 ∷ []; printed = print_more given.printed (cost_line (argument arguments 0)) }
give given (Some keyword.Variable) arguments =
    record given {
      last = Some keyword.Variable;
      closed = variables_given given;
      open_variable = Some (record { name = argument arguments 0; values = [] });
      printed = print_more given.printed (variable_line (argument arguments 0));
    }
give given (Some keyword.Value) arguments = give_value given (value_given arguments)
give given (Some keyword.End) arguments =
    record given { last = Some keyword.End; closed = variables_given given; open_variable = None; printed = print_more given.printed end_line }
give given word arguments = given

-- the rule that was read, if one was
abbrev pub rules_read : Result Rule Kind → List Rule
rules_read (Ok rule) = rule ∷ []
rules_read (Err kind) = []

-- the bytes with the printed line of the rule that was read, if one was
abbrev pub print_rule : Option ℕ → List Variable → Result Rule Kind → Option ℕ
print_rule printed variables (Ok rule) = print_more printed (rule_line variables rule)
print_rule printed variables (Err kind) = printed

-- one rule more
abbrev pub give_rule : Given → Result Rule Kind → Given
give_rule given rule =
    record given {
      last = Some keyword.Rule;
      closed = variables_given given;
      open_variable = None;
      rules = given.rules ++ rules_read rule;
      printed = print_rule given.printed (variables_given given) rule;
    }

-- one statement more
abbrev pub give_statement : Given → Option Keyword → List (List ℕ) → Result Rule Kind → Given
give_statement given (Some keyword.Rule) arguments rule = give_rule given rule
give_statement given word arguments rule = give given word arguments
