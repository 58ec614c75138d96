-- The state that calls lead to.
use Rattle.std.specs.Prelude.{ℕ, zero, suc, ◌==◌, Bool, false, ◌&&◌, if◌then◌else◌, List, [], ◌∷◌, length, find, count_by, Option, None, option_map, slice_get, unwrap_or}
use Rattle.pc_file.specs.Limits.{Contents}
use Rattle.pc_calls.specs.declared.live.Live.{Live}
use Rattle.pc_calls.specs.Selection.{Selection}

-- a published version: its file, and whether it is live
pub record Version : Type 0 where
  pub file : Contents
  pub live : Bool

-- a caller: how many sessions it has opened, and whether it has left
pub record Caller : Type 0 where
  pub opened : ℕ
  pub left : Bool

-- an open session: whose it is, its number among its owner's, its version, and what it asks
pub record OpenSession : Type 0 where
  pub owner : ℕ
  pub number : ℕ
  pub version : ℕ
  pub selection : Selection

-- Versions and callers stand in the order of their numbers, which begin with 1.
pub record State : Type 0 where
  pub versions : List Version
  pub callers : List Caller
  pub sessions : List OpenSession

-- nothing was published, and nobody has entered
abbrev pub empty : State
empty = record { versions = []; callers = []; sessions = [] }

-- what has a number, counted from 1
abbrev pub numbered : {A : Type 0} → List A → ℕ → Option A
numbered xs zero = None
numbered xs (suc place) = slice_get xs place

-- the number of the version that was published last; 0 where none was
abbrev pub current : State → ℕ
current state = length state.versions

-- how many versions are live
abbrev pub live_versions : State → ℕ
live_versions state = count_by (λ version. version.live) state.versions

-- the file of a version; none where that number wasn't given
abbrev pub file_of : State → ℕ → Option Contents
file_of state version = option_map (λ v. v.file) (numbered state.versions version)

-- the version is live
abbrev pub is_live : State → ℕ → Bool
is_live state version = unwrap_or (option_map (λ v. v.live) (numbered state.versions version)) false

-- how many open sessions are at a version
abbrev pub pins : State → ℕ → ℕ
pins state version = count_by (λ session. session.version == version) state.sessions

-- of versions whose numbers begin with this one, those that are live, with their pins
abbrev pub live_from : State → ℕ → List Version → List Live
live_from state number [] = []
live_from state number (version ∷ versions) =
    if version.live then record { version = number; pins = pins state number } ∷ live_from state (suc number) versions
    else live_from state (suc number) versions

-- the live versions in rising order, with their pins
abbrev pub live_list : State → List Live
live_list state = live_from state 1 state.versions

-- how many sessions a caller has opened
abbrev pub opened_by : State → ℕ → ℕ
opened_by state caller = unwrap_or (option_map (λ c. c.opened) (numbered state.callers caller)) 0

-- the session is a caller's
abbrev pub is_owned : ℕ → OpenSession → Bool
is_owned caller session = session.owner == caller

-- the session has this number among its owner's
abbrev pub is_session : ℕ → ℕ → OpenSession → Bool
is_session caller number session = is_owned caller session && (session.number == number)

-- a caller's open session of a number
abbrev pub session_of : State → ℕ → ℕ → Option OpenSession
session_of state caller number = find (is_session caller number) state.sessions

-- how many sessions a caller has open
abbrev pub open_sessions : State → ℕ → ℕ
open_sessions state caller = count_by (is_owned caller) state.sessions

-- the version of a caller's session; 0 where there is no such session
abbrev pub version_in : State → ℕ → ℕ → ℕ
version_in state caller number = unwrap_or (option_map (λ s. s.version) (session_of state caller number)) 0
