-- What may be asked of a file, and what a session that moves to another version comes to there, by its board.
use Rattle.std.specs.Prelude.{◌≡◌, ℕ, List, [], ◌∷◌, ◌++◌, false, Some, Result, Ok, Err}
use Rattle.pc_diagram.specs.declared.bounds.Bounds.{Bounds}
use Rattle.pc_diagram.specs.declared.choice.Choice.{Choice}
use Rattle.pc_diagram.specs.Choices.{is_chosen}
use Rattle.pc_file.specs.Contents.{Contents}
use Rattle.pc_file.specs.Full.{full_domains}
use Rattle.pc_calls.specs.declared.dropped.Dropped.{Dropped}
use Rattle.pc_calls.specs.declared.outcome.Outcome.TheVariants as outcome
use Rattle.pc_calls.specs.Carry.{Carried, carried_variable}
use Rattle.pc_calls.specs.Decision.{Decision}
use Rattle.pc_domains.specs.declared.board.Board.{Board}
use Rattle.pc_domains.specs.declared.board_fault.BoardFault.{BoardFault}
use Rattle.pc_domains.specs.declared.board_fault.BoardFault.TheVariants as board
use Rattle.pc_domains.specs.Sides.{AreDistinctOf}
use Rattle.pc_session.specs.declared.move_fault.MoveFault.{MoveFault}
use Rattle.pc_session.specs.declared.move_fault.MoveFault.TheVariants.{Refused, NoMemory}
use Rattle.pc_session.specs.declared.replay.Replay.{Replay}
use Rattle.pc_session.specs.Costs.{AreOnCosts}
use Rattle.pc_session.specs.Next.{asked_by}

-- what may be asked of a file: distinct choices of its values, and bounds on its costs
pub record IsAskable (file : Contents) (choices : List Choice) (bounds : Bounds) : Type 0 where
  pub choices_of : AreDistinctOf (full_domains file) choices
  pub bounds_on : AreOnCosts file bounds

-- a choice's variable, where the target has one of its name, has no choice among these
abbrev pub IsNew : Contents → Contents → List Choice → Choice → Type 0
IsNew file target kept choice = (variable : ℕ) → carried_variable file target choice.variable ≡ Some variable → is_chosen kept variable ≡ false

-- a board's fault as one of a move
abbrev pub fault_of_board : BoardFault → MoveFault
fault_of_board (board.LabelLimit side layer) = Refused (outcome.LabelLimit side layer)
fault_of_board board.NoFit = Refused outcome.Conflict
fault_of_board board.NoMemory = NoMemory

-- a refusal that is told is the decision's; want of memory may come in any case
abbrev pub IsMoveFault : {A : Type 0} → Decision A → MoveFault → Type 0
IsMoveFault decision (Refused refusal) = decision ≡ Err refusal
IsMoveFault decision NoMemory = Unit {0}

-- what is asked by the board, with what was dropped
abbrev pub carried_by : Replay → Carried
carried_by replay = record { selection = asked_by replay.board; dropped = replay.dropped }

-- an item is kept with the board that was made with it, or dropped where none was
abbrev pub replay_after : Result Board BoardFault → Dropped → Replay → Replay
replay_after (Ok board) item replay = record { board = board; dropped = replay.dropped }
replay_after (Err fault) item replay = record { board = replay.board; dropped = replay.dropped ++ item ∷ [] }
