-- What a session asks of its product, and the calls that change it: what they give, or the first refusal.
use Rattle.std.specs.Prelude.{ℕ, ℤ, pos, ◌==◌, Bool, false, not, if◌then◌else◌, List, [], ◌∷◌, ◌++◌, length, slice_get, is_some, unwrap_or, Option, Some, None, Ok}
use Rattle.std.specs.List.{list_any}
use Rattle.pc_diagram.specs.declared.bounds.Bounds.{Bounds}
use Rattle.pc_diagram.specs.declared.choice.Choice.{Choice}
use Rattle.pc_diagram.specs.declared.listed.Listed.{Listed}
use Rattle.pc_diagram.specs.declared.which.Which.{Which}
use Rattle.pc_diagram.specs.Bounds.{bound_on, no_bounds, with_bound_on}
use Rattle.pc_diagram.specs.Choices.{is_chosen, without}
use Rattle.pc_diagram.specs.Fitting.{fitting}
use Rattle.pc_diagram.specs.Least.{least_cost}
use Rattle.pc_file.specs.Contents.{Contents}
use Rattle.pc_file.specs.Costs.{costs_of, file_listing}
use Rattle.pc_file.specs.Full.{full}
use Rattle.pc_file.specs.Positions.{cost_named, value_named, variable_named}
use Rattle.pc_calls.specs.declared.outcome.Outcome.TheVariants.{LabelLimit, NoCost, NotBounded, NotChosen, NotListed, NoValue, NoVariable, TooTight}
use Rattle.pc_calls.specs.Decision.{Decision, ◌>>=◌, ◌>>◌, refused_by, refused_where, required}
use Rattle.pc_calls.specs.LabelLimit.{label_limit}

-- the choices in the order in which they were made, and the bounds
pub record Selection : Type 0 where
  pub choices : List Choice
  pub bounds : Bounds

-- no choice and no bound
abbrev pub free : Selection
free = record { choices = []; bounds = no_bounds }

-- the listing that a session shows
unfoldable pub shown : Contents → Selection → List (List Listed)
shown file selection = file_listing file selection.choices selection.bounds

-- a value is among the listed values of a variable, if there is such a variable
abbrev pub is_among : ℕ → Option (List Listed) → Bool
is_among value None = false
is_among value (Some items) = list_any (λ item. item.value == value) items

-- a value of a variable is in a listing
abbrev pub is_in : List (List Listed) → ℕ → ℕ → Bool
is_in listing variable value = is_among value (slice_get listing variable)

-- with this choice at the end; a variable that is chosen keeps its place
abbrev pub with_choice : Selection → ℕ → ℕ → Selection
with_choice selection variable value =
    if is_chosen selection.choices variable then selection
    else record { choices = selection.choices ++ record { variable = variable; value = value } ∷ []; bounds = selection.bounds }

-- without the choice of a variable
abbrev pub without_choice : Selection → ℕ → Selection
without_choice selection variable = record { choices = without selection.choices variable; bounds = selection.bounds }

-- with a bound on a cost in place of the one that it had, or without one
abbrev pub with_bound : Which → Option ℤ → Selection → Selection
with_bound which bound selection = record { choices = selection.choices; bounds = with_bound_on which bound selection.bounds }

-- the words that fit what a session asks
unfoldable pub fitting_words : Contents → Selection → List (List ℕ)
fitting_words file selection = fitting (costs_of file.variables) (full file) selection.choices selection.bounds

-- the least of a cost over the words that fit; 0 where none does
abbrev pub least_fitting : Which → Contents → Selection → ℤ
least_fitting which file selection = unwrap_or (least_cost which (costs_of file.variables) (fitting_words file selection)) (pos 0)

-- what is asked; it is refused where that has too many pairs of costs
abbrev pub unless_limited : Contents → Selection → Decision Selection
unless_limited file selection = do
  refused_by (label_limit file selection.choices selection.bounds) (λ limit. LabelLimit limit.0 limit.1)
  Ok selection

-- show: nothing changes
abbrev pub show : Contents → Selection → Decision Selection
show file selection = Ok selection

-- choose: the choice goes to the end of the choices
unfoldable pub choose_at : ℕ → ℕ → Contents → Selection → Decision Selection
choose_at variable value file selection = do
  refused_where (not (is_in (shown file selection) variable value)) NotListed
  unless_limited file (with_choice selection variable value)

abbrev pub choose : List ℕ → List ℕ → Contents → Selection → Decision Selection
choose variable_name value_name file selection = do
  variable ← required (variable_named file variable_name) NoVariable
  value ← required (value_named file variable value_name) NoValue
  choose_at variable value file selection

-- retract: the choice of that variable goes
unfoldable pub retract_at : ℕ → Contents → Selection → Decision Selection
retract_at variable file selection = do
  refused_where (not (is_chosen selection.choices variable)) NotChosen
  unless_limited file (without_choice selection variable)

abbrev pub retract : List ℕ → Contents → Selection → Decision Selection
retract variable_name file selection = do
  variable ← required (variable_named file variable_name) NoVariable
  retract_at variable file selection

-- bound: no word that fits costs more. Where none is left, the least of that cost without the bound is told.
unfoldable pub bound_at : Which → ℤ → Contents → Selection → Decision Selection
bound_at which most file selection = do
  asked ← unless_limited file (with_bound which (Some most) selection)
  refused_where (length (fitting_words file asked) == 0) (TooTight (least_fitting which file (with_bound which None selection)))
  Ok asked

abbrev pub bound : List ℕ → ℤ → Contents → Selection → Decision Selection
bound cost_name most file selection = do
  which ← required (cost_named file cost_name) NoCost
  bound_at which most file selection

-- unbound: the bound on that cost goes
unfoldable pub unbound_at : Which → Contents → Selection → Decision Selection
unbound_at which file selection = do
  refused_where (not (is_some (bound_on which selection.bounds))) NotBounded
  Ok (with_bound which None selection)

abbrev pub unbound : List ℕ → Contents → Selection → Decision Selection
unbound cost_name file selection = do
  which ← required (cost_named file cost_name) NoCost
  unbound_at which file selection
