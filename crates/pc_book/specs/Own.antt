-- A caller's own part, and when it stands after a history.
use Rattle.std.specs.Prelude.{◌≡◌, ℕ, true, List, [], ◌∷◌, ◌++◌, map, All, Some}
use Rattle.pc_file.specs.Contents.{Contents}
use Rattle.pc_calls.specs.declared.call.Call.{Call}
use Rattle.pc_calls.specs.declared.entry.Entry.{Entry}
use Rattle.pc_calls.specs.declared.reply.Reply.{Reply}
use Rattle.pc_calls.specs.Decision.{Decision}
use Rattle.pc_calls.specs.Heads as heads
use Rattle.pc_calls.specs.History.{IsLegal, entry_of, is_present, state_after}
use Rattle.pc_calls.specs.LocalReply.{is_local}
use Rattle.pc_calls.specs.OwnedSessions.{sessions_of}
use Rattle.pc_calls.specs.Selection.{Selection}
use Rattle.pc_calls.specs.State.{OpenSession, State, file_of, opened_by}
use Rattle.pc_session.specs.Visit.{Visit}
use Rattle.pc_book.specs.Visits.{reply_among, visits_after}

-- its number, how many sessions it has opened, those that are open, and the entries that no other caller has seen
pub record OwnPart : Type 0 where
  pub number : ℕ
  pub opened : ℕ
  pub sessions : List Visit
  pub pending : List Entry

-- a session of an owner
abbrev pub owned_by : ℕ → Visit → OpenSession
owned_by owner visit = record { owner = owner; number = visit.number; version = visit.version; selection = visit.selection }

-- the state after a history and then the pending entries
abbrev pub state_with : List Entry → OwnPart → State
state_with history own = state_after (history ++ own.pending)

-- the state has of the caller what the part has
pub record IsPartOf (state : State) (own : OwnPart) : Type 0 where
  pub sessions : sessions_of state own.number ≡ map (owned_by own.number) own.sessions
  pub files : All (λ v. file_of state v.version ≡ Some v.file) own.sessions
  pub opened : opened_by state own.number ≡ own.opened

-- an entry of the caller's for a call that is a session's own
abbrev pub IsLocalOf : ℕ → Entry → Type 0
IsLocalOf number entry = (entry.caller ≡ number) × (is_local entry.call ≡ true)

-- The caller has entered and not left, its pending entries are calls of its sessions and legal after the history, and the
-- state after them has of the caller what the part has.
pub record StandsAfter (history : List Entry) (own : OwnPart) : Type 0 where
  pub entered : is_present (state_with history own) own.number ≡ true
  pub local : All (IsLocalOf own.number) own.pending
  pub legal : IsLegal (history ++ own.pending)
  pub part : IsPartOf (state_with history own) own

-- the part after a call of a session, which asks this
abbrev pub own_after : Call → ℕ → (Contents → Selection → Decision Selection) → OwnPart → OwnPart
own_after call session ask own = record {
  number = own.number;
  opened = own.opened;
  sessions = visits_after session ask own.sessions;
  pending = own.pending ++ record { caller = own.number; call = call; head = (reply_among session ask own.sessions).head } ∷ [];
}

-- What a call of a session comes to after a history: its entry, which is the one of the state there, is added to the pending
-- ones, the reply is the one of that state, and the part stands again.
pub record Serves (call : Call) (before later : OwnPart) (reply : Reply) (history : List Entry) : Type 0 where
  pub entry : later.pending ≡ before.pending ++ entry_of (state_with history before) before.number call ∷ []
  pub answer : reply ≡ heads.reply before.number call (state_with history before)
  pub stands : StandsAfter history later
