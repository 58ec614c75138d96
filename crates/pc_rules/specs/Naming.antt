-- The rule that a phrase names, with positions in place of words.
use Rattle.std.specs.Prelude.{◌≡◌, ℕ, ◌^◌, nat_lt, if◌then◌else◌, List, [], ◌∷◌, map, Option, Some, None, Ok, Err}
use Rattle.std.specs.Option.{unwrap_or}
use Rattle.std.specs.List.{zip}
use Rattle.pc_names.specs.Name.{is_name}
use Rattle.pc_file.specs.declared.catalogue.Catalogue.{Catalogue}
use Rattle.pc_file.specs.declared.variable.Variable.{Variable}
use Rattle.pc_file.specs.declared.rule.Rule.{Rule}
use Rattle.pc_file.specs.declared.rule.Rule.TheVariants as rule
use Rattle.pc_file.specs.Catalogue.{variable_position, value_position}
use Rattle.pc_rules.specs.declared.kind.Kind.TheVariants as kind
use Rattle.pc_rules.specs.declared.phrase.Phrase.{Phrase}
use Rattle.pc_rules.specs.declared.phrase.Phrase.TheOpen.{Phrase-F, Is, IsNot, OneOf, Not, And, Or, Implies, Same, AtMost, Table}
use Rattle.pc_rules.specs.declared.phrase.Phrase.TheFolds.{fold-Phrase}
use Rattle.pc_rules.specs.Counts.{count_of}
use Rattle.pc_rules.specs.Parsed.{Parsed, ◌>>=◌}

-- a position is a number of 32 bits
abbrev pub position_or_unknown : Option ℕ → Parsed ℕ
position_or_unknown None = Err kind.Unknown
position_or_unknown (Some position) = if nat_lt position (2 ^ 32) then Ok position else Err kind.Unknown

-- where the variable stands that a word names
unfoldable pub variable_at : Catalogue → List ℕ → Parsed ℕ
variable_at names word = if is_name word then position_or_unknown (variable_position names word) else Err kind.Unknown

-- where the value of a variable stands that a word names
unfoldable pub value_at : Catalogue → ℕ → List ℕ → Parsed ℕ
value_at names variable word = if is_name word then position_or_unknown (value_position names variable word) else Err kind.Unknown

-- all the values, or the first fault
abbrev pub all_ok : {A : Type 0} → List (Parsed A) → Parsed (List A)
all_ok [] = Ok []
all_ok (first ∷ more) = first >>= λ x. all_ok more >>= λ xs. Ok (x ∷ xs)

unfoldable pub variables_at : Catalogue → List (List ℕ) → Parsed (List ℕ)
variables_at names words = all_ok (map (variable_at names) words)

unfoldable pub values_at : Catalogue → ℕ → List (List ℕ) → Parsed (List ℕ)
values_at names variable words = all_ok (map (value_at names variable) words)

-- a value of each variable
unfoldable pub row_at : Catalogue → List ℕ → List (List ℕ) → Parsed (List ℕ)
row_at names variables words = all_ok (map (λ p. value_at names p.0 p.1) (zip variables words))

unfoldable pub rows_at : Catalogue → List ℕ → List (List (List ℕ)) → Parsed (List (List ℕ))
rows_at names variables rows = all_ok (map (row_at names variables) rows)

-- One layer of a phrase, with the rule in the place of each part.
abbrev pub named_step : Catalogue → Phrase-F (Parsed Rule) → Parsed Rule
named_step names (Is variable value) = do
  v ← variable_at names variable
  a ← value_at names v value
  Ok (rule.Is v a)
named_step names (IsNot variable value) = do
  v ← variable_at names variable
  a ← value_at names v value
  Ok (rule.IsNot v a)
named_step names (OneOf variable values) = do
  v ← variable_at names variable
  these ← values_at names v values
  Ok (rule.OneOf v these)
named_step names (Not inner) = inner >>= λ r. Ok (rule.Not r)
named_step names (And members) = all_ok members >>= λ rules. Ok (rule.And rules)
named_step names (Or members) = all_ok members >>= λ rules. Ok (rule.Or rules)
named_step names (Implies premise conclusion) = do
  r ← premise
  s ← conclusion
  Ok (rule.Implies r s)
named_step names (Same variable other) = do
  v ← variable_at names variable
  w ← variable_at names other
  Ok (rule.Same v w)
named_step names (AtMost most members) = all_ok members >>= λ rules. Ok (rule.AtMost (unwrap_or (count_of most) 0) rules)
named_step names (Table variables rows) = do
  these ← variables_at names variables
  found ← rows_at names these rows
  Ok (rule.Table these found)

abbrev pub rule_named : Catalogue → Phrase → Parsed Rule
rule_named names = fold-Phrase (Parsed Rule) (named_step names)
