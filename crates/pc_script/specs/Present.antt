-- The callers that are present, and what their calls come to.
use Rattle.std.specs.Prelude.{◌≡◌, ◌≢◌, ℕ, ◌<◌, ◌==◌, Bool, List, [], ◌∷◌, ◌++◌, length, map, slice_index_or, All}
use Rattle.pc_calls.specs.declared.call.Call.{Call}
use Rattle.pc_calls.specs.declared.entry.Entry.{Entry}
use Rattle.pc_calls.specs.declared.reply.Reply.{Reply}
use Rattle.pc_calls.specs.Heads as heads
use Rattle.pc_calls.specs.History.{entry_of}
use Rattle.pc_calls.specs.State.{State}
use Rattle.pc_book.specs.Book.{history_of, state_of_book}
use Rattle.pc_book.specs.Own.{OwnPart, StandsAfter}
use Rattle.pc_conn.specs.declared.item.Item.TheVariants as item
use Rattle.pc_script.specs.declared.callers.Callers.{Callers}
use Rattle.pc_script.specs.Script.{entered}
use Rattle.pc_script.specs.ScriptHistory.{item_entries, those_present}

-- the history and the state of the book
abbrev pub history_at : Callers → List Entry
history_at callers = history_of callers.book

abbrev pub state_at : Callers → State
state_at callers = state_of_book callers.book

abbrev pub has_number : ℕ → OwnPart → Bool
has_number number own = own.number == number

abbrev pub number_of : OwnPart → ℕ
number_of own = own.number

-- no entry of the caller's waits for the journal
abbrev pub IsSettled : OwnPart → Type 0
IsSettled own = own.pending ≡ []

-- the parts of all callers that are present, in the order of their numbers, each of which stands after the journal; nothing waits
pub record ArePresent (blocks : List (List Entry)) (present : List OwnPart) : Type 0 where
  pub numbers : map number_of present ≡ those_present (state_of_book blocks)
  pub stand : All (StandsAfter (history_of blocks)) present
  pub settled : All IsSettled present

-- nothing waits of the part at a place
abbrev pub IsSettledAt : ℕ → List OwnPart → Type 0
IsSettledAt place present = (default : OwnPart) → IsSettled (slice_index_or present place default)

-- the same but for the part at a place, of which something may wait
pub record AreReady (place : ℕ) (blocks : List (List Entry)) (present : List OwnPart) : Type 0 where
  pub inside : place < length present
  pub numbers : map number_of present ≡ those_present (state_of_book blocks)
  pub stand : All (StandsAfter (history_of blocks)) present
  pub others : (other : ℕ) → other ≢ place → other < length present → IsSettledAt other present

-- the caller's part stands at a place
pub record IsSeated (caller place : ℕ) (present : List OwnPart) : Type 0 where
  pub inside : place < length present
  pub number : (default : OwnPart) → (slice_index_or present place default).number ≡ caller

-- a call's entry goes into the journal and nothing else, and its reply is the one of the state before
pub record IsRecorded (caller : ℕ) (call : Call) (before later : List (List Entry)) (reply : Reply) : Type 0 where
  pub recorded : history_of later ≡ history_of before ++ entry_of (state_of_book before) caller call ∷ []
  pub answer : reply ≡ heads.reply caller call (state_of_book before)

-- the same after the caller's enter, where it hasn't entered
pub record IsMadeBy (caller : ℕ) (call : Call) (before later : List (List Entry)) (reply : Reply) : Type 0 where
  pub recorded : history_of later ≡ history_of before ++ item_entries (state_of_book before) caller (item.Call call)
  pub answer : reply ≡ heads.reply caller call (entered (state_of_book before) caller)

-- the call of a part of which nothing waits goes into the journal, and the part stands after it again
pub record Makes (call : Call) (before later : List (List Entry)) (own own_later : OwnPart) (reply : Reply) : Type 0 where
  pub recorded : history_of later ≡ history_of before ++ entry_of (state_of_book before) own.number call ∷ []
  pub answer : reply ≡ heads.reply own.number call (state_of_book before)
  pub same_number : own_later.number ≡ own.number
  pub settled : IsSettled own_later
  pub stands : StandsAfter (history_of later) own_later

-- the journal stays, and the part stands after it, though its entry may wait
pub record StaysWith (before later : List (List Entry)) (own own_later : OwnPart) : Type 0 where
  pub same : later ≡ before
  pub same_number : own_later.number ≡ own.number
  pub stands : StandsAfter (history_of later) own_later
