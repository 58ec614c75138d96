-- What a session's call comes to, by the board that it has.
use Rattle.std.specs.Prelude.{◌≡◌, Some, None, Ok, Err}
use Rattle.pc_build.specs.declared.version.Version.{Version}
use Rattle.pc_calls.specs.declared.outcome.Outcome.TheVariants as outcome
use Rattle.pc_calls.specs.Decision.{Decision}
use Rattle.pc_calls.specs.Selection.{Selection, shown}
use Rattle.pc_domains.specs.declared.board.Board.{Board}
use Rattle.pc_domains.specs.declared.board_fault.BoardFault.{BoardFault}
use Rattle.pc_domains.specs.declared.board_fault.BoardFault.TheVariants.{LabelLimit, NoFit, NoMemory}
use Rattle.pc_domains.specs.Boards.{IsBoardOf}
use Rattle.pc_session.specs.declared.answer.Answer.{Answer}
use Rattle.pc_session.specs.declared.next.Next.{Next}
use Rattle.pc_session.specs.declared.next.Next.TheVariants.{Same, Moved, Refused}

-- what a board asks
abbrev pub asked_by : Board → Selection
asked_by board = record { choices = board.choices; bounds = board.bounds }

-- a call gives this decision: what is asked then, with its board and its listing, or the refusal
abbrev pub IsNext : Version → Selection → Decision Selection → Next → Type 0
IsNext version before decision (Same listing) = (decision ≡ Ok before) × (listing ≡ shown version.file before)
IsNext version before decision (Moved board listing) =
    IsBoardOf version.diagram version.costs board × (decision ≡ Ok (asked_by board)) × (listing ≡ shown version.file (asked_by board))
IsNext version before decision (Refused refusal) = decision ≡ Err refusal

-- a board, with its listing
abbrev pub IsMovedTo : Version → Board → Next → Type 0
IsMovedTo version board (Same listing) = ⊥
IsMovedTo version board (Moved moved listing) = (moved ≡ board) × (listing ≡ shown version.file (asked_by board))
IsMovedTo version board (Refused refusal) = ⊥

-- the limit that a board's fault tells
abbrev pub IsLimitOf : BoardFault → Next → Type 0
IsLimitOf (LabelLimit side layer) next = next ≡ Refused (outcome.LabelLimit side layer)
IsLimitOf NoFit next = ⊥
IsLimitOf NoMemory next = ⊥

-- what is answered
abbrev pub answer_by : Next → Answer
answer_by (Same listing) = record { outcome = outcome.Done; listing = Some listing }
answer_by (Moved board listing) = record { outcome = outcome.Done; listing = Some listing }
answer_by (Refused refusal) = record { outcome = refusal; listing = None }

-- the board then
abbrev pub board_by : Board → Next → Board
board_by before (Same listing) = before
board_by before (Moved board listing) = board
board_by before (Refused refusal) = before
