-- The words after the keyword of a statement.
use Rattle.std.specs.Prelude.{◌≡◌, ℕ, ◌+◌, drop, Bool, true, false, not, ◌&&◌, ◌==◌, List, length, map, Option, Some, None, Result, Ok, Err}
use Rattle.std.specs.Borrow.{Bor}
use Rattle.pc_names.specs.Name.{is_name}
use Rattle.pc_file.specs.Limits.{is_reserved}
use Rattle.std.specs.List.{list_all}
use Rattle.pc_file.specs.declared.variable.Value.{Value}
use Rattle.pc_text.specs.declared.statement_fault.StatementFault.{StatementFault}
use Rattle.pc_text.specs.declared.statement_fault.StatementFault.TheVariants.{Fault}
use Rattle.pc_rules.specs.declared.kind.Kind.TheVariants as kind
use Rattle.pc_text.specs.Given.{argument, value_given}
use Rattle.pc_text.specs.Orders.{is_cost_text}

-- the bytes of each
abbrev pub bytes : List (Bor (List ℕ)) → List (List ℕ)
bytes arguments = map (λ word. word.now) arguments

-- what is found is the only argument and a name; nothing is found where there is no such argument
abbrev pub IsOnlyName : List (List ℕ) → Option (List ℕ) → Type 0
IsOnlyName arguments None = ((length arguments == 1) && is_name (argument arguments 0)) ≡ false
IsOnlyName arguments (Some name) = ((length arguments == 1) && is_name (argument arguments 0) ≡ true) × (argument arguments 0 ≡ name)

-- the same of a name that is no reserved word
abbrev pub IsOnlyFreeName : List (List ℕ) → Option (List ℕ) → Type 0
IsOnlyFreeName arguments None = ((length arguments == 1) && is_name (argument arguments 0) && not (is_reserved (argument arguments 0))) ≡ false
IsOnlyFreeName arguments (Some name) =
    ((length arguments == 1) && is_name (argument arguments 0) && not (is_reserved (argument arguments 0)) ≡ true) × (argument arguments 0 ≡ name)

-- a name and as many more words as there are costs
abbrev pub has_value_form : List (List ℕ) → ℕ → Bool
has_value_form arguments costs = (length arguments == costs + 1) && is_name (argument arguments 0)

abbrev pub has_costs : List (List ℕ) → Bool
has_costs arguments = list_all is_cost_text (drop 1 arguments)

-- the value that the arguments give, or the first of two faults
abbrev pub IsValueOf : List (List ℕ) → ℕ → Result Value StatementFault → Type 0
IsValueOf arguments costs (Ok value) = (has_value_form arguments costs ≡ true) × (has_costs arguments ≡ true) × (value ≡ value_given arguments)
IsValueOf arguments costs (Err (Fault kind.Value)) = has_value_form arguments costs ≡ false
IsValueOf arguments costs (Err (Fault kind.Number)) = (has_value_form arguments costs ≡ true) × (has_costs arguments ≡ false)
IsValueOf arguments costs (Err fault) = ⊥
