-- The statements of a file, and the lines that say them.
use Rattle.std.specs.Prelude.{◌≡◌, ℕ, true, List, [], ◌∷◌, ◌++◌, length, map, take, codes}
use Rattle.std.specs.Fmt.{signed_decimal}
use Rattle.std.specs.List.{flat_map}
use Rattle.pc_names.specs.Name.{is_name}
use Rattle.pc_file.specs.declared.rule.Rule.{Rule}
use Rattle.pc_file.specs.declared.variable.Value.{Value}
use Rattle.pc_file.specs.declared.variable.Variable.{Variable}
use Rattle.pc_file.specs.Limits.{Contents}
use Rattle.pc_names.specs.LineWords.{words, first_word, after_word}
use Rattle.pc_text.specs.Given.{catalogue_of}
use Rattle.pc_rules.specs.RuleText.{IsRuleText}

-- a statement: the header, the name of a cost or of a variable, a value of the variable named last, a rule, or the end
pub data Statement : Type 0 where
  header : Statement
  a_cost : List ℕ → Statement
  a_variable : List ℕ → Statement
  a_value : Value → Statement
  a_rule : Rule → Statement
  end : Statement

-- a variable, followed by its values
abbrev pub variable_statements : Variable → List Statement
variable_statements variable = a_variable variable.name ∷ map a_value variable.values

-- the statements of a file, in order
abbrev pub statements : Contents → List Statement
statements file = header ∷ map a_cost file.costs ++ (flat_map variable_statements file.variables ++ (map a_rule file.rules ++ end ∷ []))

-- the words of a value in a file of so many costs: its name, and as many canonical numbers
abbrev pub value_words : ℕ → Value → List (List ℕ)
value_words costs value = value.name ∷ take costs (signed_decimal value.first ∷ signed_decimal value.second ∷ [])

-- A line says a statement of a file, by its words; a rule is what the bytes after the word `rule` spell, over the names of the file.
abbrev pub Says : Contents → List ℕ → Statement → Type 0
Says file line header = words line ≡ codes "product" ∷ codes "1" ∷ []
Says file line (a_cost name) = (words line ≡ codes "cost" ∷ name ∷ []) × (is_name name ≡ true)
Says file line (a_variable name) = (words line ≡ codes "variable" ∷ name ∷ []) × (is_name name ≡ true)
Says file line (a_value value) = (words line ≡ codes "value" ∷ value_words (length file.costs) value) × (is_name value.name ≡ true)
Says file line (a_rule rule) = (first_word line ≡ codes "rule") × IsRuleText (catalogue_of file.variables) (after_word line) rule
Says file line end = words line ≡ codes "end" ∷ []
