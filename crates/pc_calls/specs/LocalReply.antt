-- Calls that are a session's own, and the reply to such a call by the session alone.
use Rattle.std.specs.Prelude.{ℕ, Bool, [], Option, Some, None, is_some, Ok, Err}
use Rattle.pc_file.specs.Contents.{Contents}
use Rattle.pc_calls.specs.declared.call.Call.{Call}
use Rattle.pc_calls.specs.declared.call.Call.TheVariants.{Show, Choose, Retract, Bound, Unbound}
use Rattle.pc_calls.specs.declared.head.Head.{Head}
use Rattle.pc_calls.specs.declared.outcome.Outcome.{Outcome}
use Rattle.pc_calls.specs.declared.outcome.Outcome.TheVariants.{Done, NoSession}
use Rattle.pc_calls.specs.declared.reply.Reply.{Reply}
use Rattle.pc_calls.specs.Decision.{Decision}
use Rattle.pc_calls.specs.Selection.{Selection, bound, choose, retract, show, shown, unbound}
use Rattle.pc_calls.specs.State.{State}
use Rattle.pc_calls.specs.Step.{with_selection}

-- a call that is a session's own: the session, and what it asks after the call
pub record LocalCall : Type 0 where
  pub session : ℕ
  pub ask : Contents → Selection → Decision Selection

-- the call as a session's own, if it is
abbrev pub local_call : Call → Option LocalCall
local_call (Show session) = Some (record { session = session; ask = show })
local_call (Choose session variable value) = Some (record { session = session; ask = choose variable value })
local_call (Retract session variable) = Some (record { session = session; ask = retract variable })
local_call (Bound session cost most) = Some (record { session = session; ask = bound cost most })
local_call (Unbound session cost) = Some (record { session = session; ask = unbound cost })
local_call call = None

abbrev pub is_local : Call → Bool
is_local call = is_some (local_call call)

-- the head of an answer that a session gives
abbrev pub told_head : ℕ → ℕ → Outcome → Head
told_head session version outcome = record { session = session; version = version; outcome = outcome; live = []; dropped = [] }

-- the reply of a session at a version with this file, where this is what it asks after the call
abbrev pub reply_by : ℕ → ℕ → Contents → Decision Selection → Reply
reply_by session version file (Ok selection) = record { head = told_head session version Done; shown = Some (record { file = file; listing = shown file selection }) }
reply_by session version file (Err refusal) = record { head = told_head session version refusal; shown = None }

-- the reply where there is no such session
abbrev pub no_session : ℕ → Reply
no_session session = record { head = told_head session 0 NoSession; shown = None }

-- the state where this is what a caller's session asks after the call
abbrev pub state_given : ℕ → ℕ → State → Decision Selection → State
state_given caller session before (Ok selection) = with_selection caller session selection before
state_given caller session before (Err refusal) = before
