-- What a rebase is given: the version that it aims at, and what was made there of the session.
use Rattle.std.specs.Prelude.{◌≡◌, ℕ, ◌==◌, Bool, true, false, not, if◌then◌else◌, List, [], ◌∷◌, find, Option, Some, None, option_map, unwrap_or}
use Rattle.pc_file.specs.Contents.{Contents}
use Rattle.pc_build.specs.declared.version.Version as build
use Rattle.pc_calls.specs.declared.outcome.Outcome.{Outcome}
use Rattle.pc_calls.specs.declared.outcome.Outcome.TheVariants.{Done, NoSession, NotLive, SameVersion}
use Rattle.pc_calls.specs.declared.reply.Reply.{Reply}
use Rattle.pc_calls.specs.Carry.{moved_to}
use Rattle.pc_calls.specs.State.{State, file_of, is_live}
use Rattle.pc_session.specs.Rebased.{IsRebased}
use Rattle.pc_session.specs.Visit.{Visit}
use Rattle.pc_session.specs.declared.rebased.Rebased.{Rebased}
use Rattle.pc_session.specs.declared.rebased.Rebased.TheVariants.{Ready, Refused}
use Rattle.pc_book.specs.Own.{OwnPart}
use Rattle.pc_book.specs.Visits.{has_number, plain_head}

-- the version of a number, where it is live; else none
abbrev pub IsTarget : State → ℕ → Option build.Version → Type 0
IsTarget state version None = is_live state version ≡ false
IsTarget state version (Some target) = (is_live state version ≡ true) × (file_of state version ≡ Some target.file)

-- what is made of a session for another version with this file; nothing where it is at that version
abbrev pub IsMade : Bool → Visit → ℕ → Contents → Bool → Option Rebased → Type 0
IsMade true visit version file dropping None = Unit {0}
IsMade true visit version file dropping (Some rebased) = ⊥
IsMade false visit version file dropping None = ⊥
IsMade false visit version file dropping (Some rebased) = IsRebased visit.number version file (moved_to dropping visit.file file visit.selection) rebased

-- nothing either where there is no such session
abbrev pub IsPrepared : Option Visit → ℕ → Contents → Bool → Option Rebased → Type 0
IsPrepared None version file dropping None = Unit {0}
IsPrepared None version file dropping (Some rebased) = ⊥
IsPrepared (Some visit) version file dropping made = IsMade (version == visit.version) visit version file dropping made

-- what was made of a session for a version, where that version is live
abbrev pub IsMadeAt : State → OwnPart → ℕ → ℕ → Bool → Option Rebased → Type 0
IsMadeAt state own session version dropping made = (file : Contents) → is_live state version ≡ true → file_of state version ≡ Some file → IsPrepared (find (has_number session) own.sessions) version file dropping made

-- ---- the reply to a rebase, and the session that is ready at the other version, if it moves

-- the reply to one that is refused, of a session of a number at a version
abbrev pub stays_at : ℕ → ℕ → Outcome → Reply × Option Visit
stays_at number at refusal = (record { head = plain_head number at refusal; shown = None }, None)

-- where this was made
abbrev pub given_by : ℕ → ℕ → Rebased → Reply × Option Visit
given_by number at (Ready session listing dropped) = (
  record { head = record { session = number; version = session.version; outcome = Done; live = []; dropped = dropped }; shown = Some (record { file = session.file; listing = listing }) },
  Some session,
)
given_by number at (Refused refusal) = stays_at number at refusal

abbrev pub given_made : ℕ → ℕ → Option Rebased → Reply × Option Visit
given_made number at None = stays_at number at NoSession
given_made number at (Some made) = given_by number at made

-- where the version that is aimed at is live or not
abbrev pub rebase_given : ℕ → ℕ → Bool → Option Rebased → Option Visit → Reply × Option Visit
rebase_given number version live made None = stays_at number 0 NoSession
rebase_given number version live made (Some visit) =
    if version == visit.version then stays_at number visit.version SameVersion
    else (if not live then stays_at number visit.version (NotLive version) else given_made number visit.version made)

-- the sessions with another one in the place of the first of its number
abbrev pub with_visit : Visit → List Visit → List Visit
with_visit visit [] = []
with_visit visit (v ∷ visits) = if has_number visit.number v then visit ∷ visits else v ∷ with_visit visit visits

-- the sessions where one is ready at another version, or none is
abbrev pub with_ready : Option Visit → List Visit → List Visit
with_ready None visits = visits
with_ready (Some visit) visits = with_visit visit visits

-- the version of the session of a number; 0 where there is none
abbrev pub visit_version : ℕ → List Visit → ℕ
visit_version number visits = unwrap_or (option_map (λ v. v.version) (find (has_number number) visits)) 0
