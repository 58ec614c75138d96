-- What a caller's sessions are, and the rebases that moved one of them.
use Rattle.std.specs.Prelude.{ℕ, ◌==◌, Bool, false, ◌&&◌, List, filter}
use Rattle.pc_calls.specs.declared.call.Call.{Call}
use Rattle.pc_calls.specs.declared.call.Call.TheVariants.{Rebase}
use Rattle.pc_calls.specs.declared.entry.Entry.{Entry}
use Rattle.pc_calls.specs.Decision.{is_done}
use Rattle.pc_calls.specs.State.{OpenSession, State, is_owned}

-- the open sessions of a caller
abbrev pub sessions_of : State → ℕ → List OpenSession
sessions_of state caller = filter (is_owned caller) state.sessions

-- the call is a rebase of the session of this number
abbrev pub is_rebase_of : ℕ → Call → Bool
is_rebase_of number (Rebase session version dropping) = session == number
is_rebase_of number call = false

-- the rebases of a caller's session that are done
abbrev pub rebases_of : ℕ → ℕ → List Entry → List Entry
rebases_of caller number entries = filter (λ entry. (entry.caller == caller) && is_rebase_of number entry.call && is_done entry.head.outcome) entries
