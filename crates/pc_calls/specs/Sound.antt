-- What stands in every state that a legal history leads to.
use Rattle.std.specs.Prelude.{◌≡◌, ◌≤◌, ◌==◌, true, false, List, [], ◌∷◌, All}
use Rattle.pc_calls.specs.State.{OpenSession, State, current, is_live, is_session, opened_by}

-- no two sessions have one owner and number
abbrev pub AreDifferent : List OpenSession → Type 0
AreDifferent [] = Unit {0}
AreDifferent (session ∷ sessions) = All (λ other. is_session session.owner session.number other ≡ false) sessions × AreDifferent sessions

-- The current version is live, where there is one; every open session's version is live; its number is one of those that
-- were given to its owner, and no other session of that owner has it.
pub record IsSound (state : State) : Type 0 where
  pub current_live : (current state == 0) ≡ false → is_live state (current state) ≡ true
  pub sessions_live : All (λ s. is_live state s.version ≡ true) state.sessions
  pub numbers : All (λ s. s.number ≤ opened_by state s.owner) state.sessions
  pub different : AreDifferent state.sessions
