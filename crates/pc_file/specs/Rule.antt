-- When a rule holds for a word, by cases over the ten forms.
use Rattle.std.specs.Prelude.{ℕ, Bool, not, ◌||◌, ◌==◌, nat_le, List, count_by, Option, Some, None, true, false}
use Rattle.std.specs.List.{list_all, list_any, zip}
use Rattle.std.specs.Cmp.Lexicographic.{pointwise}
use Rattle.pc_diagram.specs.Fitting.{takes}
use Rattle.pc_file.specs.declared.variable.Variable.{Variable}
use Rattle.pc_file.specs.declared.rule.Rule.{Rule}
use Rattle.pc_file.specs.declared.rule.Rule.TheOpen.{Rule-F, Is, IsNot, OneOf, Not, And, Or, Implies, Same, AtMost, Table}
use Rattle.pc_file.specs.declared.rule.Rule.TheFolds.{fold-Rule}
use Rattle.pc_file.specs.Names.{taken_name}

abbrev pub same_name : Option (List ℕ) → Option (List ℕ) → Bool
same_name None None = true
same_name None (Some b) = false
same_name (Some a) None = false
same_name (Some a) (Some b) = pointwise ◌==◌ a b

-- a row of a table has the word's values at the table's variables
abbrev pub row_fits : List ℕ → List ℕ → List ℕ → Bool
row_fits word variables row = list_all (λ p. takes word p.0 p.1) (zip variables row)

-- One layer of a rule, with whether it holds in the place of each subrule.
abbrev pub holds_step : List Variable → List ℕ → Rule-F Bool → Bool
holds_step variables word (Is variable value) = takes word variable value
holds_step variables word (IsNot variable value) = not (takes word variable value)
holds_step variables word (OneOf variable values) = list_any (takes word variable) values
holds_step variables word (Not rule) = not rule
holds_step variables word (And rules) = list_all (λ holds. holds) rules
holds_step variables word (Or rules) = list_any (λ holds. holds) rules
holds_step variables word (Implies rule consequence) = not rule || consequence
holds_step variables word (Same variable other) = same_name (taken_name variables word variable) (taken_name variables word other)
holds_step variables word (AtMost most rules) = nat_le (count_by (λ holds. holds) rules) most
holds_step variables word (Table these rows) = list_any (row_fits word these) rows

-- the rule holds for the word
abbrev pub holds : List Variable → List ℕ → Rule → Bool
holds variables word = fold-Rule Bool (holds_step variables word)
