-- The journal of all callers, and what a call that others see does to it.
use Rattle.std.specs.Prelude.{◌≡◌, ℕ, ◌+◌, ◌≤◌, not, List, [], ◌∷◌, ◌++◌, length, count_by}
use Rattle.std.specs.List.{flat_map}
use Rattle.pc_calls.specs.declared.call.Call.{Call}
use Rattle.pc_calls.specs.declared.entry.Entry.{Entry}
use Rattle.pc_calls.specs.declared.reply.Reply.{Reply}
use Rattle.pc_calls.specs.Heads as heads
use Rattle.pc_calls.specs.History.{IsLegal, entry_of, state_after}
use Rattle.pc_calls.specs.State.{State, current, opened_by}
use Rattle.pc_book.specs.Own.{OwnPart, StandsAfter, state_with}
use Rattle.pc_book.specs.Shelves.{Shelved, shelves_of}

-- the history of a journal: the entries of its blocks, in order
abbrev pub history_of : List (List Entry) → List Entry
history_of blocks = flat_map (λ block. block) blocks

-- the state after a journal
abbrev pub state_of_book : List (List Entry) → State
state_of_book blocks = state_after (history_of blocks)

-- the number of the next caller
abbrev pub next_caller : List (List Entry) → ℕ
next_caller blocks = length (state_of_book blocks).callers + 1

-- how many callers have entered and not left
abbrev pub present_callers : State → ℕ
present_callers state = count_by (λ c. not c.left) state.callers

-- what is kept beside the journal is what the state has: the live versions, how many callers have entered and are present,
-- and the current version
pub record IsKeptOf (state : State) (shelves : List Shelved) (entered present now : ℕ) : Type 0 where
  pub shelves_are : shelves ≡ shelves_of state
  pub entered_are : entered ≡ length state.callers
  pub present_are : present ≡ present_callers state
  pub current_is : now ≡ current state

-- no number of a state passes so many blocks
pub record IsFewerThan (blocks : ℕ) (state : State) : Type 0 where
  pub callers : length state.callers ≤ blocks
  pub versions : current state ≤ blocks
  pub sessions : length state.sessions ≤ blocks
  pub opened : (caller : ℕ) → opened_by state caller ≤ blocks

-- A book's journal is legal, the rest is what the state after it has, and no number passes the blocks.
pub record IsBook (blocks : List (List Entry)) (shelves : List Shelved) (entered present now : ℕ) : Type 0 where
  pub legal : IsLegal (history_of blocks)
  pub kept : IsKeptOf (state_of_book blocks) shelves entered present now
  pub few : IsFewerThan (length blocks) (state_of_book blocks)

-- the journal with a block more: a part's waiting entries, and then the entry of a call
abbrev pub with_entry : List (List Entry) → OwnPart → Call → List (List Entry)
with_entry blocks own call = blocks ++ (own.pending ++ entry_of (state_with (history_of blocks) own) own.number call ∷ []) ∷ []

-- What a call that others see comes to: one block is appended, with the caller's waiting entries and the entry of the call in the
-- state after them, the reply is the one of that state, nothing waits, and the part stands after the journal again.
pub record Shares (call : Call) (before later : List (List Entry)) (own own_later : OwnPart) (reply : Reply) : Type 0 where
  pub appended : later ≡ with_entry before own call
  pub answer : reply ≡ heads.reply own.number call (state_with (history_of before) own)
  pub same_number : own_later.number ≡ own.number
  pub spent : own_later.pending ≡ []
  pub stands : StandsAfter (history_of later) own_later
