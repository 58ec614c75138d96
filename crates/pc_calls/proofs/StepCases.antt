-- What a caller's call gives, by cases: what holds of each refusal, and of each state that a call may make.
use Rattle.std.proofs.Common.{◌≡◌, ℕ, ◌+◌, ◌==◌, nat_le, Bool, true, false, not, [], ◌∷◌, ◌++◌, length, filter, Option, Some, None, Ok, Err, refl}
use Rattle.pc_file.specs.Contents.{Contents}
use Rattle.pc_file.specs.Full.{full}
use Rattle.pc_file.specs.Parts.{file_node_limit}
use Rattle.pc_calls.specs.declared.call.Call.{Call}
use Rattle.pc_calls.specs.declared.call.Call.TheVariants as call
use Rattle.pc_calls.specs.declared.outcome.Outcome.{Outcome}
use Rattle.pc_calls.specs.declared.outcome.Outcome.TheVariants.{IsCurrent, NodeLimit, NoProduct, NoSession, NoVersion, NotLive, Pinned, SameVersion, SessionsFull, ShelvesFull, Stale}
use Rattle.pc_calls.specs.Carry.{Carried, moved_to}
use Rattle.pc_calls.specs.Decision.{Decision, ◌>>=◌, ◌>>◌, is_done, refused_by, refused_where, required}
use Rattle.pc_calls.specs.LocalReply.{is_local}
use Rattle.pc_calls.specs.Selection.{Selection, bound, choose, retract, show, unbound}
use Rattle.pc_calls.specs.State.{OpenSession, State, current, file_of, is_live, is_owned, is_session, live_versions, open_sessions, opened_by, pins, session_of}
use Rattle.pc_calls.specs.Step.{at_version, change_first, change_numbered, drop_first, gone, in_session, newcomer, rebase, retired, step, with_opened, with_selection}

-- an enter, which is never refused
abbrev pub is_enter : Call → Bool
is_enter call.Enter = true
is_enter said = false

-- a call that changes what a session asks
abbrev pub is_asking : Call → Bool
is_asking (call.Rebase session version dropping) = true
is_asking said = is_local said

-- ---- one step of a decision, and another

through-required : {A : Type 0} (P : Decision State → Type 0) (found : Option A) (refusal : Outcome) (next : A → Decision State) → P (Err refusal) → ((x : A) → P (next x)) → P (required found refusal >>= next)
through-required P (Some x) refusal next refused given = given x
through-required P None refusal next refused given = refused

through-test : (P : Decision State → Type 0) (stands : Bool) (refusal : Outcome) (next : Decision State) → P (Err refusal) → (stands ≡ false → P next) → P (refused_where stands refusal >> next)
through-test P true refusal next refused passed = refused
through-test P false refusal next refused passed = passed refl

through-told : {A : Type 0} (P : Decision State → Type 0) (told : Option A) (refusal : A → Outcome) (next : Decision State) → ((x : A) → P (Err (refusal x))) → P next → P (refused_by told refusal >> next)
through-told P (Some x) refusal next refused passed = refused x
through-told P None refusal next refused passed = passed

through-asked : {A : Type 0} (P : Decision State → Type 0) (asked : Decision A) (next : A → Decision State) → ((refusal : Outcome) → P (Err refusal)) → ((x : A) → P (next x)) → P (asked >>= next)
through-asked P (Ok x) next refused given = given x
through-asked P (Err refusal) next refused given = refused refusal

pub in-session-gives : (P : Decision State → Type 0) (caller number : ℕ) (ask : Contents → Selection → Decision Selection) (before : State)
    → P (Err NoSession) → ((refusal : Outcome) → P (Err refusal)) → ((selection : Selection) → P (Ok (with_selection caller number selection before))) → P (in_session caller number ask before)
in-session-gives P caller number ask before missing refused given =
    through-required P (session_of before caller number) NoSession (λ session. required (file_of before session.version) NoSession >>= (λ file. ask file session.selection >>= (λ selection. Ok (with_selection caller number selection before)))) missing
    (λ session. through-required P (file_of before session.version) NoSession (λ file. ask file session.selection >>= (λ selection. Ok (with_selection caller number selection before))) missing
    (λ file. through-asked P (ask file session.selection) (λ selection. Ok (with_selection caller number selection before)) refused given))

pub live-where : (live : Bool) → not live ≡ false → live ≡ true
live-where true e = refl
live-where false e = absurd cc

-- ---- what a move carries over, and then the state

module _ (P : Decision State → Type 0) (next : Carried → Decision State) where
  moves-required : {A : Type 0} (found : Option A) (refusal : Outcome) (rest : A → Decision Carried) → P (Err refusal) → ((x : A) → P (rest x >>= next)) → P ((required found refusal >>= rest) >>= next)
  moves-required (Some x) refusal rest refused given = given x
  moves-required None refusal rest refused given = refused

  moves-test : (stands : Bool) (refusal : Outcome) (rest : Decision Carried) → P (Err refusal) → (stands ≡ false → P (rest >>= next)) → P ((refused_where stands refusal >> rest) >>= next)
  moves-test true refusal rest refused passed = refused
  moves-test false refusal rest refused passed = passed refl

-- the session is at this version, and asks what was carried over
abbrev pub moved_state : ℕ → ℕ → ℕ → State → Carried → State
moved_state caller number version before moved =
    record { versions = before.versions; callers = before.callers; sessions = change_first (is_session caller number) (at_version version moved.selection) before.sessions }

module _ (P : Decision State → Type 0) (caller number version : ℕ) (dropping : Bool) (before : State)
    (refused : (refusal : Outcome) → P (Err refusal))
    (given : (moved : Carried) → is_live before version ≡ true → P (Ok (moved_state caller number version before moved))) where
  abbrev next : Carried → Decision State
  next = λ moved. Ok (moved_state caller number version before moved)

  abbrev carried : OpenSession → Contents → Contents → Decision Carried
  carried session file target = moved_to dropping file target session.selection

  abbrev aimed : OpenSession → Contents → Decision Carried
  aimed session file = required (file_of before version) (NotLive version) >>= carried session file

  abbrev read : OpenSession → Decision Carried
  read session = required (file_of before session.version) NoSession >>= aimed session

  rebase-gives : P (rebase caller number version dropping before)
  rebase-gives =
      moves-required P next (session_of before caller number) NoSession (λ session. refused_where (version == session.version) SameVersion >> (refused_where (not (is_live before version)) (NotLive version) >> read session)) (refused NoSession)
      (λ session. moves-test P next (version == session.version) SameVersion (refused_where (not (is_live before version)) (NotLive version) >> read session) (refused SameVersion)
      (λ other. moves-test P next (not (is_live before version)) (NotLive version) (read session) (refused (NotLive version))
      (λ live. moves-required P next (file_of before session.version) NoSession (aimed session) (refused NoSession)
      (λ file. moves-required P next (file_of before version) (NotLive version) (carried session file) (refused (NotLive version))
      (λ target. through-asked P (carried session file target) next refused (λ moved. given moved (live-where (is_live before version) live)))))))

-- ---- every call

module _ (P : Call → Decision State → Type 0) (caller : ℕ) (before : State)
    (refused : (said : Call) (refusal : Outcome) → is_enter said ≡ false → is_done refusal ≡ false → P said (Err refusal))
    (declined : (said : Call) (refusal : Outcome) → is_asking said ≡ true → P said (Err refusal))
    (entered : P call.Enter (Ok (record { versions = before.versions; callers = before.callers ++ newcomer ∷ []; sessions = before.sessions })))
    (opened : (current before == 0) ≡ false → P call.Open (Ok (record { versions = before.versions; callers = change_numbered with_opened before.callers caller; sessions = before.sessions ++ record { owner = caller; number = opened_by before caller + 1; version = current before; selection = record { choices = []; bounds = record { first = None; second = None } } } ∷ [] })))
    (asked : (said : Call) → is_local said ≡ true → (number : ℕ) (selection : Selection) → P said (Ok (with_selection caller number selection before)))
    (moved : (number version : ℕ) (dropping : Bool) (carried : Carried) → is_live before version ≡ true → P (call.Rebase number version dropping) (Ok (moved_state caller number version before carried)))
    (closed : (number : ℕ) → P (call.Close number) (Ok (record { versions = before.versions; callers = before.callers; sessions = drop_first (is_session caller number) before.sessions })))
    (published : (base : ℕ) (file : Contents) → P (call.Publish base file) (Ok (record { versions = before.versions ++ record { file = file; live = true } ∷ []; callers = before.callers; sessions = before.sessions })))
    (reclaimed : (version : ℕ) → (version == current before) ≡ false → (pins before version == 0) ≡ true → P (call.Reclaim version) (Ok (record { versions = change_numbered retired before.versions version; callers = before.callers; sessions = before.sessions })))
    (told : P call.Versions (Ok before))
    (left : P call.Leave (Ok (record { versions = before.versions; callers = change_numbered gone before.callers caller; sessions = filter (λ s. not (is_owned caller s)) before.sessions }))) where
  own : (said : Call) → is_enter said ≡ false → is_local said ≡ true → is_asking said ≡ true → (number : ℕ) (ask : Contents → Selection → Decision Selection) → P said (in_session caller number ask before)
  own said other local asking number ask =
      in-session-gives (P said) caller number ask before (refused said NoSession other refl) (λ refusal. declined said refusal asking) (asked said local number)

  pub step-gives : (said : Call) → P said (step caller said before)
  step-gives call.Enter = entered
  step-gives call.Open =
      through-test (P call.Open) (current before == 0) NoVersion _ (refused call.Open NoVersion refl refl)
      (λ some. through-test (P call.Open) (nat_le 64 (open_sessions before caller)) SessionsFull _ (refused call.Open SessionsFull refl refl) (λ room. opened some))
  step-gives (call.Show session) = own (call.Show session) refl refl refl session show
  step-gives (call.Choose session variable value) = own (call.Choose session variable value) refl refl refl session (choose variable value)
  step-gives (call.Retract session variable) = own (call.Retract session variable) refl refl refl session (retract variable)
  step-gives (call.Bound session cost most) = own (call.Bound session cost most) refl refl refl session (bound cost most)
  step-gives (call.Unbound session cost) = own (call.Unbound session cost) refl refl refl session (unbound cost)
  step-gives (call.Rebase session version dropping) =
      rebase-gives (P (call.Rebase session version dropping)) caller session version dropping before (λ refusal. declined (call.Rebase session version dropping) refusal refl) (moved session version dropping)
  step-gives (call.Close session) =
      through-required (P (call.Close session)) (session_of before caller session) NoSession _ (refused (call.Close session) NoSession refl refl) (λ _. closed session)
  step-gives (call.Publish base file) =
      let said : Call = call.Publish base file in
      through-told (P said) (file_node_limit file) (λ limit. NodeLimit limit.0 limit.1) _ (λ limit. refused said (NodeLimit limit.0 limit.1) refl refl)
      (through-test (P said) (length (full file) == 0) NoProduct _ (refused said NoProduct refl refl)
      (λ some. through-test (P said) (not (base == current before)) (Stale (current before)) _ (refused said (Stale (current before)) refl refl)
      (λ same. through-test (P said) (nat_le 32 (live_versions before)) ShelvesFull _ (refused said ShelvesFull refl refl) (λ room. published base file))))
  step-gives (call.Reclaim version) =
      let said : Call = call.Reclaim version in
      through-test (P said) (not (is_live before version)) (NotLive version) _ (refused said (NotLive version) refl refl)
      (λ live. through-test (P said) (version == current before) IsCurrent _ (refused said IsCurrent refl refl)
      (λ other. through-test (P said) (not (pins before version == 0)) (Pinned (pins before version)) _ (refused said (Pinned (pins before version)) refl refl)
      (λ free. reclaimed version other (live-where (pins before version == 0) free))))
  step-gives call.Versions = told
  step-gives call.Leave = left
