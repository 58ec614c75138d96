-- The head of the answer to a call, and its reply.
use Rattle.std.specs.Prelude.{ℕ, Bool, true, false, if◌then◌else◌, List, [], Option, None, option_map, option_and_then, Ok, Err}
use Rattle.pc_calls.specs.declared.call.Call.{Call}
use Rattle.pc_calls.specs.declared.call.Call.TheVariants.{Open, Show, Choose, Retract, Bound, Unbound, Rebase, Close, Publish, Reclaim, Versions}
use Rattle.pc_calls.specs.declared.head.Head.{Head}
use Rattle.pc_calls.specs.declared.reply.Reply.{Reply}
use Rattle.pc_calls.specs.declared.reply.Shown.{Shown}
use Rattle.pc_calls.specs.declared.dropped.Dropped.{Dropped}
use Rattle.pc_calls.specs.declared.live.Live.{Live}
use Rattle.pc_calls.specs.Carry.{Carried}
use Rattle.pc_calls.specs.Decision.{Decision}
use Rattle.pc_calls.specs.Selection.{shown}
use Rattle.pc_calls.specs.State.{State, current, file_of, live_list, opened_by, session_of, version_in}
use Rattle.pc_calls.specs.Step.{move, step, outcome_of, state_of}

-- the session that a call asks for, or that it opened; else 0
abbrev pub session_told : ℕ → Call → Decision State → ℕ
session_told caller Open (Ok later) = opened_by later caller
session_told caller Open (Err refusal) = 0
session_told caller (Show session) result = session
session_told caller (Choose session variable value) result = session
session_told caller (Retract session variable) result = session
session_told caller (Bound session cost most) result = session
session_told caller (Unbound session cost) result = session
session_told caller (Rebase session version dropping) result = session
session_told caller (Close session) result = session
session_told caller call result = 0

-- The version of that session after the call, or that a close let go; the version that a publish made or a reclaim asks
-- for; what was current where the live versions are told; else 0.
abbrev pub version_told : ℕ → Call → State → Decision State → ℕ
version_told caller Open before (Ok later) = version_in later caller (opened_by later caller)
version_told caller Open before (Err refusal) = 0
version_told caller (Show session) before result = version_in (state_of before result) caller session
version_told caller (Choose session variable value) before result = version_in (state_of before result) caller session
version_told caller (Retract session variable) before result = version_in (state_of before result) caller session
version_told caller (Bound session cost most) before result = version_in (state_of before result) caller session
version_told caller (Unbound session cost) before result = version_in (state_of before result) caller session
version_told caller (Rebase session version dropping) before result = version_in (state_of before result) caller session
version_told caller (Close session) before result = version_in before caller session
version_told caller (Publish base file) before (Ok later) = current later
version_told caller (Publish base file) before (Err refusal) = 0
version_told caller (Reclaim version) before result = version
version_told caller Versions before result = current before
version_told caller call before result = 0

-- the live versions, where a call asks for them
abbrev pub live_told : Call → State → List Live
live_told Versions before = live_list before
live_told call before = []

-- what was dropped where something was carried over
abbrev pub dropped_by : Decision Carried → List Dropped
dropped_by (Ok moved) = moved.dropped
dropped_by (Err refusal) = []

-- what a call dropped
abbrev pub dropped_told : ℕ → Call → State → List Dropped
dropped_told caller (Rebase session version dropping) before = dropped_by (move caller session version dropping before)
dropped_told caller call before = []

-- the head of an answer
abbrev pub head_by : ℕ → Call → State → Decision State → Head
head_by caller call before result =
    record { session = session_told caller call result; version = version_told caller call before result; outcome = outcome_of result; live = live_told call before; dropped = dropped_told caller call before }

-- the head of the answer to a caller's call
abbrev pub head : ℕ → Call → State → Head
head caller call state = head_by caller call state (step caller call state)

-- the call shows the session's listing where it is done
abbrev pub is_shown : Call → Bool
is_shown Open = true
is_shown (Show session) = true
is_shown (Choose session variable value) = true
is_shown (Retract session variable) = true
is_shown (Bound session cost most) = true
is_shown (Unbound session cost) = true
is_shown (Rebase session version dropping) = true
is_shown call = false

-- what is shown of a caller's session: the file of its version and its listing
abbrev pub shown_of : State → ℕ → ℕ → Option Shown
shown_of state caller number = option_and_then (λ s. option_map (λ f. record { file = f; listing = shown f s.selection }) (file_of state s.version)) (session_of state caller number)

-- what is shown after a call that is done
abbrev pub shown_by : ℕ → Call → Decision State → Option Shown
shown_by caller call (Ok later) = if is_shown call then shown_of later caller (session_told caller call (Ok later)) else None
shown_by caller call (Err refusal) = None

-- the reply to a caller's call
abbrev pub reply : ℕ → Call → State → Reply
reply caller call state = record { head = head caller call state; shown = shown_by caller call (step caller call state) }
