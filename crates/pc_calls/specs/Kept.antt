-- What a call keeps of the sessions that were open before it.
use Rattle.std.specs.Prelude.{◌≡◌, ℕ, ◌+◌, ◌⊎◌, Contains}
use Rattle.pc_calls.specs.declared.call.Call.{Call}
use Rattle.pc_calls.specs.declared.call.Call.TheVariants.{Rebase}
use Rattle.pc_calls.specs.State.{OpenSession, State, current, opened_by}

-- the call is a rebase by this owner, of its session of this number, to this version
abbrev pub IsRebaseOf : ℕ → Call → ℕ → ℕ → ℕ → Type 0
IsRebaseOf caller (Rebase session version dropping) owner number target = (owner ≡ caller) × (number ≡ session) × (target ≡ version)
IsRebaseOf caller call owner number target = ⊥

-- the session was open before, of the same owner and number; its version is the same, or its owner's rebase moved it there
pub record WasOpen (caller : ℕ) (call : Call) (state : State) (session : OpenSession) : Type 0 where
  pub before : OpenSession
  pub is_open : Contains state.sessions before
  pub same_owner : session.owner ≡ before.owner
  pub same_number : session.number ≡ before.number
  pub version : (session.version ≡ before.version) ⊎ IsRebaseOf caller call session.owner session.number session.version

-- the session is a caller's next one, at the current version
abbrev pub IsNext : ℕ → State → OpenSession → Type 0
IsNext caller state session = (session.owner ≡ caller) × (session.number ≡ opened_by state caller + 1) × (session.version ≡ current state)

abbrev pub IsKept : ℕ → Call → State → OpenSession → Type 0
IsKept caller call state session = WasOpen caller call state session ⊎ IsNext caller state session
