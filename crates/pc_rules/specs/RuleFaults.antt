-- What may be wrong with a rule that the grammar has.
use Rattle.std.specs.Prelude.{ℕ, Bool, false, not, ◌||◌, ◌==◌, nat_lt, is_some, List, length}
use Rattle.std.specs.List.{list_any}
use Rattle.pc_file.specs.declared.sizes.TheConstants.{MOST_MEMBERS}
use Rattle.pc_base.specs.Distinct.{all_differ}
use Rattle.pc_file.specs.declared.rule.Rule.{Rule}
use Rattle.pc_file.specs.declared.rule.Rule.TheOpen as rule
use Rattle.pc_file.specs.declared.rule.Rule.TheFolds.{fold-Rule}
use Rattle.pc_rules.specs.declared.checks.AtMostFault.{AtMostFault}
use Rattle.pc_rules.specs.declared.checks.AtMostFault.TheVariants.{Number, Length}
use Rattle.pc_rules.specs.declared.phrase.Phrase.{Phrase}
use Rattle.pc_rules.specs.declared.phrase.Phrase.TheOpen.{Phrase-F, Is, IsNot, OneOf, Not, And, Or, Implies, Same, AtMost, Table}
use Rattle.pc_rules.specs.declared.phrase.Phrase.TheFolds.{fold-Phrase}
use Rattle.pc_rules.specs.Counts.{count_of}

-- One layer of a phrase, with whether the fault stands in the place of each part; the test is on the number and the members of an `atmost`.
abbrev pub fault_step : (List ℕ → ℕ → Bool) → Phrase-F Bool → Bool
fault_step test (Is variable value) = false
fault_step test (IsNot variable value) = false
fault_step test (OneOf variable values) = false
fault_step test (Not phrase) = phrase
fault_step test (And phrases) = list_any (λ fault. fault) phrases
fault_step test (Or phrases) = list_any (λ fault. fault) phrases
fault_step test (Implies phrase conclusion) = phrase || conclusion
fault_step test (Same variable other) = false
fault_step test (AtMost most phrases) = test most (length phrases) || list_any (λ fault. fault) phrases
fault_step test (Table variables rows) = false

-- the number is no canonical one, or greater than the most members; or there are more members than that
abbrev pub test_of : AtMostFault → List ℕ → ℕ → Bool
test_of Number most count = not (is_some (count_of most))
test_of Length most count = nat_lt MOST_MEMBERS count

-- some `atmost` has the fault
abbrev pub has_fault : AtMostFault → Phrase → Bool
has_fault fault = fold-Phrase Bool (fault_step (test_of fault))

-- One layer of a rule, with whether something stands twice in the place of each subrule.
abbrev pub repeat_step : rule.Rule-F Bool → Bool
repeat_step (rule.Is variable value) = false
repeat_step (rule.IsNot variable value) = false
repeat_step (rule.OneOf variable values) = not (all_differ ◌==◌ values)
repeat_step (rule.Not repeats) = repeats
repeat_step (rule.And repeats) = list_any (λ fault. fault) repeats
repeat_step (rule.Or repeats) = list_any (λ fault. fault) repeats
repeat_step (rule.Implies repeats conclusion) = repeats || conclusion
repeat_step (rule.Same variable other) = false
repeat_step (rule.AtMost most repeats) = list_any (λ fault. fault) repeats
repeat_step (rule.Table variables rows) = not (all_differ ◌==◌ variables)

-- a value stands twice in some `in`, or a variable twice in some `table`
abbrev pub has_repeat : Rule → Bool
has_repeat = fold-Rule Bool repeat_step
