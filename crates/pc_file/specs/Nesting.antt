-- The parentheses of a rule's printed form. A member is put in parentheses where it binds less than its place asks.
use Rattle.std.specs.Prelude.{ℕ, ◌+◌, nat_lt, if◌then◌else◌, max, List, map, fold}
use Rattle.pc_file.specs.declared.rule.Rule.{Rule}
use Rattle.pc_file.specs.declared.rule.Rule.TheOpen.{Rule-F, Is, IsNot, OneOf, Not, And, Or, Implies, Same, AtMost, Table}
use Rattle.pc_file.specs.declared.rule.Rule.TheFolds.{fold-Rule}

-- how much a printed rule binds, from 0 for an implication to 4, and the most parentheses that are open in it at once
pub record Nesting : Type 0 where
  pub strength : ℕ
  pub open_at_most : ℕ

-- the most that are open at once where the rule stands in a place that asks for a strength
abbrev pub open_in_place : ℕ → Nesting → ℕ
open_in_place asked rule = if nat_lt rule.strength asked then rule.open_at_most + 1 else rule.open_at_most

-- the same of several members in places of one kind
abbrev pub open_in_places : ℕ → List Nesting → ℕ
open_in_places asked rules = fold max 0 (map (open_in_place asked) rules)

-- how much one layer of a rule binds where it is printed
abbrev pub strength_of : {A : Type 0} → Rule-F A → ℕ
strength_of (Is variable value) = 4
strength_of (IsNot variable value) = 4
strength_of (OneOf variable values) = 4
strength_of (Not rule) = 3
strength_of (And rules) = 2
strength_of (Or rules) = 1
strength_of (Implies rule consequence) = 0
strength_of (Same variable other) = 4
strength_of (AtMost most rules) = 4
strength_of (Table variables rows) = 4

-- One layer of a rule, with what is known of each subrule in its place.
abbrev pub open_at_most_of : Rule-F Nesting → ℕ
open_at_most_of (Is variable value) = 0
open_at_most_of (IsNot variable value) = 0
open_at_most_of (OneOf variable values) = 0
open_at_most_of (Not rule) = open_in_place 4 rule
open_at_most_of (And rules) = open_in_places 3 rules
open_at_most_of (Or rules) = open_in_places 2 rules
open_at_most_of (Implies rule consequence) = max (open_in_place 1 rule) (open_in_place 1 consequence)
open_at_most_of (Same variable other) = 1
open_at_most_of (AtMost most rules) = open_in_places 0 rules + 1
open_at_most_of (Table variables rows) = 1

abbrev pub nesting_step : Rule-F Nesting → Nesting
nesting_step rule = record { strength = strength_of rule; open_at_most = open_at_most_of rule }

abbrev pub nesting : Rule → Nesting
nesting = fold-Rule Nesting nesting_step
