-- What each call does to the state, or the first of its refusals that stands. A refused call leaves the state.
use Rattle.std.specs.Prelude.{ℕ, zero, suc, ◌==◌, ◌+◌, nat_le, Bool, true, false, not, if◌then◌else◌, List, [], ◌∷◌, ◌++◌, filter, length, Ok, Err}
use Rattle.pc_file.specs.Contents.{Contents}
use Rattle.pc_file.specs.Full.{full}
use Rattle.pc_file.specs.Parts.{file_node_limit}
use Rattle.pc_calls.specs.declared.call.Call.{Call}
use Rattle.pc_calls.specs.declared.call.Call.TheVariants.{Enter, Open, Show, Choose, Retract, Bound, Unbound, Rebase, Close, Publish, Reclaim, Versions, Leave}
use Rattle.pc_calls.specs.declared.limits.TheConstants.{MOST_LIVE, MOST_SESSIONS}
use Rattle.pc_calls.specs.declared.outcome.Outcome.{Outcome}
use Rattle.pc_calls.specs.declared.outcome.Outcome.TheVariants.{Done, IsCurrent, NodeLimit, NoProduct, NoSession, NoVersion, NotLive, Pinned, SameVersion, SessionsFull, ShelvesFull, Stale}
use Rattle.pc_calls.specs.Carry.{Carried, moved_to}
use Rattle.pc_calls.specs.Decision.{Decision, ◌>>=◌, ◌>>◌, refused_by, refused_where, required}
use Rattle.pc_calls.specs.Selection.{Selection, bound, choose, free, retract, show, unbound}
use Rattle.pc_calls.specs.State.{Caller, OpenSession, State, Version, current, live_versions, file_of, is_live, opened_by, is_owned, is_session, pins, session_of, open_sessions}

-- the item of a number, counted from 1, changed
abbrev pub change_numbered : {A : Type 0} → (A → A) → List A → ℕ → List A
change_numbered change [] number = []
change_numbered change (x ∷ xs) zero = x ∷ xs
change_numbered change (x ∷ xs) (suc zero) = change x ∷ xs
change_numbered change (x ∷ xs) (suc (suc place)) = x ∷ change_numbered change xs (suc place)

-- a new caller
abbrev pub newcomer : Caller
newcomer = record { opened = 0; left = false }

-- the caller has opened one more session
abbrev pub with_opened : Caller → Caller
with_opened caller = record { opened = caller.opened + 1; left = caller.left }

-- the caller makes no more calls
abbrev pub gone : Caller → Caller
gone caller = record { opened = caller.opened; left = true }

-- the session asks something else
abbrev pub asking : Selection → OpenSession → OpenSession
asking selection session = record { owner = session.owner; number = session.number; version = session.version; selection = selection }

-- enter: the next caller number
abbrev pub enter : State → Decision State
enter state = Ok (record { versions = state.versions; callers = state.callers ++ newcomer ∷ []; sessions = state.sessions })

-- open: the caller's next session, at the current version, without choices and bounds
abbrev pub open_session : ℕ → State → Decision State
open_session caller state = do
  refused_where (current state == 0) NoVersion
  refused_where (nat_le MOST_SESSIONS (open_sessions state caller)) SessionsFull
  Ok (record {
    versions = state.versions;
    callers = change_numbered with_opened state.callers caller;
    sessions = state.sessions ++ record { owner = caller; number = opened_by state caller + 1; version = current state; selection = free } ∷ [];
  })

-- the first session that a test finds, changed
abbrev pub change_first : (OpenSession → Bool) → (OpenSession → OpenSession) → List OpenSession → List OpenSession
change_first is change [] = []
change_first is change (session ∷ sessions) = if is session then change session ∷ sessions else session ∷ change_first is change sessions

-- a caller's session of a number asks something else
abbrev pub with_selection : ℕ → ℕ → Selection → State → State
with_selection caller number selection state =
    record { versions = state.versions; callers = state.callers; sessions = change_first (is_session caller number) (asking selection) state.sessions }

-- a call that is a session's own: what it asks after the call, over the file of its version
abbrev pub in_session : ℕ → ℕ → (Contents → Selection → Decision Selection) → State → Decision State
in_session caller number ask state = do
  session ← required (session_of state caller number) NoSession
  file ← required (file_of state session.version) NoSession
  selection ← ask file session.selection
  Ok (with_selection caller number selection state)

-- the sessions without the first that a test finds
abbrev pub drop_first : (OpenSession → Bool) → List OpenSession → List OpenSession
drop_first is [] = []
drop_first is (session ∷ sessions) = if is session then sessions else session ∷ drop_first is sessions

-- close: the session ends
abbrev pub close : ℕ → ℕ → State → Decision State
close caller number state = do
  session ← required (session_of state caller number) NoSession
  Ok (record { versions = state.versions; callers = state.callers; sessions = drop_first (is_session caller number) state.sessions })

-- publish: the file is the next version, live and current
abbrev pub publish : ℕ → Contents → State → Decision State
publish base file state = do
  refused_by (file_node_limit file) (λ limit. NodeLimit limit.0 limit.1)
  refused_where (length (full file) == 0) NoProduct
  refused_where (not (base == current state)) (Stale (current state))
  refused_where (nat_le MOST_LIVE (live_versions state)) ShelvesFull
  Ok (record { versions = state.versions ++ record { file = file; live = true } ∷ []; callers = state.callers; sessions = state.sessions })

-- leave: the caller's sessions end, and it makes no more calls
abbrev pub leave : ℕ → State → Decision State
leave caller state =
    Ok (record { versions = state.versions; callers = change_numbered gone state.callers caller; sessions = filter (λ s. not (is_owned caller s)) state.sessions })

-- the session is at this version, and asks what was carried over
abbrev pub at_version : ℕ → Selection → OpenSession → OpenSession
at_version version selection session = record { owner = session.owner; number = session.number; version = version; selection = selection }

-- what a session that moves to a version asks there, and what it drops
abbrev pub move : ℕ → ℕ → ℕ → Bool → State → Decision Carried
move caller number version dropping state = do
  session ← required (session_of state caller number) NoSession
  refused_where (version == session.version) SameVersion
  refused_where (not (is_live state version)) (NotLive version)
  file ← required (file_of state session.version) NoSession
  target ← required (file_of state version) (NotLive version)
  moved_to dropping file target session.selection

-- rebase: the session moves to another live version, which carries over by names what it asks
abbrev pub rebase : ℕ → ℕ → ℕ → Bool → State → Decision State
rebase caller number version dropping state = do
  moved ← move caller number version dropping state
  Ok (record { versions = state.versions; callers = state.callers; sessions = change_first (is_session caller number) (at_version version moved.selection) state.sessions })

-- the version is live no more
abbrev pub retired : Version → Version
retired version = record { file = version.file; live = false }

-- reclaim: a live version that isn't current and has no session is live no more
abbrev pub reclaim : ℕ → State → Decision State
reclaim version state = do
  refused_where (not (is_live state version)) (NotLive version)
  refused_where (version == current state) IsCurrent
  refused_where (not (pins state version == 0)) (Pinned (pins state version))
  Ok (record { versions = change_numbered retired state.versions version; callers = state.callers; sessions = state.sessions })

-- what a caller's call gives
abbrev pub step : ℕ → Call → State → Decision State
step caller Enter state = enter state
step caller Open state = open_session caller state
step caller (Show session) state = in_session caller session show state
step caller (Choose session variable value) state = in_session caller session (choose variable value) state
step caller (Retract session variable) state = in_session caller session (retract variable) state
step caller (Bound session cost most) state = in_session caller session (bound cost most) state
step caller (Unbound session cost) state = in_session caller session (unbound cost) state
step caller (Rebase session version dropping) state = rebase caller session version dropping state
step caller (Close session) state = close caller session state
step caller (Publish base file) state = publish base file state
step caller (Reclaim version) state = reclaim version state
step caller Versions state = Ok state
step caller Leave state = leave caller state

abbrev pub outcome_of : Decision State → Outcome
outcome_of (Ok state) = Done
outcome_of (Err refusal) = refusal

abbrev pub state_of : State → Decision State → State
state_of before (Ok state) = state
state_of before (Err refusal) = before

-- the state after a caller's call
abbrev pub after : ℕ → Call → State → State
after caller call state = state_of state (step caller call state)
