-- What a session asks of one product, carried over by names to another.
use Rattle.std.specs.Prelude.{ℕ, ℤ, ◌==◌, Bool, true, false, not, ◌&&◌, List, [], ◌∷◌, ◌++◌, length, slice_get, slice_index_or, is_some, Option, Some, None, option_and_then, unwrap_or, Ok, Err}
use Rattle.pc_diagram.specs.declared.bounds.Bounds.{Bounds}
use Rattle.pc_diagram.specs.declared.choice.Choice.{Choice}
use Rattle.pc_diagram.specs.declared.which.Which.{Which}
use Rattle.pc_diagram.specs.declared.which.Which.TheVariants.{First, Second}
use Rattle.pc_diagram.specs.Bounds.{no_bounds, with_bound_on}
use Rattle.pc_file.specs.Contents.{Contents}
use Rattle.pc_file.specs.Limits.{value_names, variable_names}
use Rattle.pc_file.specs.Positions.{cost_named, value_named, variable_named}
use Rattle.pc_calls.specs.declared.dropped.Dropped.{Dropped}
use Rattle.pc_calls.specs.declared.dropped.Dropped.TheVariants as item
use Rattle.pc_calls.specs.declared.outcome.Outcome.TheVariants.{Conflict, Lost}
use Rattle.pc_calls.specs.Decision.{Decision, ◌>>=◌, ◌>>◌, refused_where, required}
use Rattle.pc_calls.specs.LabelLimit.{label_limit}
use Rattle.pc_calls.specs.Selection.{Selection, fitting_words, free, unless_limited}

-- the names of a variable, of a value and of a cost of a product; a position that isn't one has no letter
abbrev pub variable_name : Contents → ℕ → List ℕ
variable_name file variable = slice_index_or (variable_names file.variables) variable []

abbrev pub value_name : Contents → ℕ → ℕ → List ℕ
value_name file variable value = unwrap_or (option_and_then (λ v. slice_get (value_names v) value) (slice_get file.variables variable)) []

abbrev pub cost_name : Contents → Which → List ℕ
cost_name file First = slice_index_or file.costs 0 []
cost_name file Second = slice_index_or file.costs 1 []

-- what has the same name in the target
abbrev pub carried_variable : Contents → Contents → ℕ → Option ℕ
carried_variable file target variable = variable_named target (variable_name file variable)

abbrev pub carried_value : Contents → Contents → Choice → ℕ → Option ℕ
carried_value file target choice variable = value_named target variable (value_name file choice.variable choice.value)

abbrev pub carried_cost : Contents → Contents → Which → Option Which
carried_cost file target which = cost_named target (cost_name file which)

-- a choice in the target; the variable's name is lost before the value's
abbrev pub carry_choice : Contents → Contents → Choice → Decision Choice
carry_choice file target choice = do
  variable ← required (carried_variable file target choice.variable) (Lost (variable_name file choice.variable))
  value ← required (carried_value file target choice variable) (Lost (value_name file choice.variable choice.value))
  Ok (record { variable = variable; value = value })

-- choices in order, or the first name that is lost
abbrev pub carry_choices : Contents → Contents → List Choice → Decision (List Choice)
carry_choices file target [] = Ok []
carry_choices file target (choice ∷ choices) = do
  carried ← carry_choice file target choice
  others ← carry_choices file target choices
  Ok (carried ∷ others)

-- a bound on a cost, set over other bounds of the target
abbrev pub carry_bound : Contents → Contents → Which → Option ℤ → Bounds → Decision Bounds
carry_bound file target which None bounds = Ok bounds
carry_bound file target which (Some most) bounds = do
  carried ← required (carried_cost file target which) (Lost (cost_name file which))
  Ok (with_bound_on carried (Some most) bounds)

-- the bound on the first cost, then that on the second
abbrev pub carry_bounds : Contents → Contents → Bounds → Decision Bounds
carry_bounds file target bounds = do
  first ← carry_bound file target First bounds.first no_bounds
  carry_bound file target Second bounds.second first

-- what is asked, in the target: its choices, then its bounds
unfoldable pub carry : Contents → Contents → Selection → Decision Selection
carry file target selection = do
  choices ← carry_choices file target selection.choices
  bounds ← carry_bounds file target selection.bounds
  Ok (record { choices = choices; bounds = bounds })

-- what is asked in the target, and what was dropped on the way
pub record Carried : Type 0 where
  pub selection : Selection
  pub dropped : List Dropped

-- no limit of labels stands over what is asked, and a product fits it
unfoldable pub is_possible : Contents → Selection → Bool
is_possible file selection = not (is_some (label_limit file selection.choices selection.bounds)) && not (length (fitting_words file selection) == 0)

-- with an item kept, or dropped
abbrev pub keep_if : Bool → Selection → Dropped → Carried → Carried
keep_if true asked dropped moved = record { selection = asked; dropped = moved.dropped }
keep_if false asked dropped moved = record { selection = moved.selection; dropped = moved.dropped ++ dropped ∷ [] }

-- An item is kept where all its names are carried over and, with what was kept before it, it is possible; else it is dropped.
abbrev pub keep : Contents → Decision Selection → Dropped → Carried → Carried
keep target (Ok asked) dropped moved = keep_if (is_possible target asked) asked dropped moved
keep target (Err lost) dropped moved = keep_if false moved.selection dropped moved

-- a bound on a cost, if there is one, kept or dropped
abbrev pub replay_bound : Contents → Contents → Which → Option ℤ → Carried → Carried
replay_bound file target which None moved = moved
replay_bound file target which (Some most) moved =
    keep target (carry_bound file target which (Some most) moved.selection.bounds >>= (λ bounds. Ok (record { choices = moved.selection.choices; bounds = bounds }))) (item.Bound (cost_name file which)) moved

-- a choice, kept or dropped
abbrev pub replay_choice : Contents → Contents → Choice → Carried → Carried
replay_choice file target choice moved =
    keep target (carry_choice file target choice >>= (λ carried. Ok (record { choices = moved.selection.choices ++ carried ∷ []; bounds = moved.selection.bounds }))) (item.Choice (variable_name file choice.variable)) moved

abbrev pub replay_choices : Contents → Contents → List Choice → Carried → Carried
replay_choices file target [] moved = moved
replay_choices file target (choice ∷ choices) moved = replay_choices file target choices (replay_choice file target choice moved)

-- Starting with nothing: the bound on the first cost, that on the second and the choices in order, each kept or dropped.
unfoldable pub replay : Contents → Contents → Selection → Carried
replay file target selection =
    replay_choices file target selection.choices
    (replay_bound file target Second selection.bounds.second
    (replay_bound file target First selection.bounds.first (record { selection = free; dropped = [] })))

-- all that is asked, or the first refusal: a name that is lost, a limit of labels, or that no product fits
abbrev pub carry_possible : Contents → Contents → Selection → Decision Carried
carry_possible file target selection = do
  carried ← carry file target selection
  asked ← unless_limited target carried
  refused_where (length (fitting_words target asked) == 0) Conflict
  Ok (record { selection = asked; dropped = [] })

-- what a session that moves to the target asks there: all of it, or what may be kept
unfoldable pub moved_to : Bool → Contents → Contents → Selection → Decision Carried
moved_to false file target selection = carry_possible file target selection
moved_to true file target selection = Ok (replay file target selection)
