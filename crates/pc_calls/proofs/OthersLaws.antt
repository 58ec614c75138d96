-- What a caller sees is the same, whatever the others call.
use Rattle.std.proofs.Common.{◌≡◌, ℕ, zero, suc, ◌+◌, ◌==◌, Bool, true, false, not, ◌&&◌, cond, List, [], ◌∷◌, ◌++◌, length, filter, find, Option, Some, None, option_map, Ok, Err, All, IfSome, refl, sym, ap, subst, ◌∙◌, arith}
use Rattle.std.specs.Prelude.{is_some, option_and_then, unwrap_or}
use Rattle.std.proofs.lemmas.Bool.Decides.{nat_tests}
use Rattle.std.proofs.lemmas.List.Elements.{All-head, All-tail}
use Rattle.pc_file.specs.Contents.{Contents}
use Rattle.pc_calls.specs.declared.call.Call.{Call}
use Rattle.pc_calls.specs.declared.call.Call.TheVariants as call
use Rattle.pc_calls.specs.declared.entry.Entry.{Entry}
use Rattle.pc_calls.specs.declared.outcome.Outcome.TheVariants.{NoSession}
use Rattle.pc_calls.specs.declared.reply.Reply.{Reply}
use Rattle.pc_calls.specs.declared.reply.Shown.{Shown}
use Rattle.pc_calls.specs.Decision.{Decision, ◌>>=◌, required}
use Rattle.pc_calls.specs.Heads.{reply, shown_by, shown_of}
use Rattle.pc_calls.specs.History.{IsLegal, IsLegalFrom, after_entries, after_entry, made, may_make, state_after}
use Rattle.pc_calls.specs.LocalReply.{LocalCall, is_local, local_call, no_session, reply_by, state_given}
use Rattle.pc_calls.specs.OwnedSessions.{sessions_of}
use Rattle.pc_calls.specs.Selection.{Selection, bound, choose, retract, show, shown, unbound}
use Rattle.pc_calls.specs.Sound.{IsSound}
use Rattle.pc_calls.specs.State.{OpenSession, State, Version, empty, file_of, is_live, is_owned, is_session, numbered, session_of, version_in}
use Rattle.pc_calls.specs.Step.{after, asking, at_version, change_first, drop_first, gone, in_session, newcomer, outcome_of, state_of, step, with_opened, with_selection}
use Rattle.pc_calls.proofs.HistoryLemmas.{after_entries-append, legal-split}
use Rattle.pc_calls.proofs.SoundLaws.{legal_sound}
use Rattle.pc_calls.proofs.StepCases.{step-gives}
use Rattle.pc_calls.proofs.StepLaws.{change-beside, keeps_file}

-- ---- the sessions of one owner, where those of another change

module _ (owner : ℕ) where
  owned-append : (sessions : List OpenSession) (new : OpenSession) → is_owned owner new ≡ false → filter (is_owned owner) (sessions ++ new ∷ []) ≡ filter (is_owned owner) sessions
  owned-append [] new other = ap (λ b. cond b (new ∷ []) []) other
  owned-append (s ∷ sessions) new other = ap (λ rest. cond (is_owned owner s) (s ∷ rest) rest) (owned-append sessions new other)

  owned-change : (is : OpenSession → Bool) (change : OpenSession → OpenSession) → ((s : OpenSession) → is s ≡ true → is_owned owner s ≡ false) → ((s : OpenSession) → is_owned owner (change s) ≡ is_owned owner s) → (sessions : List OpenSession) → filter (is_owned owner) (change_first is change sessions) ≡ filter (is_owned owner) sessions
  owned-change is change others keeps [] = refl
  owned-change is change others keeps (s ∷ sessions) =
      elim (is s) as (λ b. is s ≡ b → filter (is_owned owner) (cond b (change s ∷ sessions) (s ∷ change_first is change sessions)) ≡ filter (is_owned owner) (s ∷ sessions)) [
        | true ↦ (λ e. ap (λ b. cond b (change s ∷ filter (is_owned owner) sessions) (filter (is_owned owner) sessions)) (keeps s ∙ others s e) ∙ ap (λ b. cond b (s ∷ filter (is_owned owner) sessions) (filter (is_owned owner) sessions)) (sym (others s e)))
        | false ↦ (λ e. ap (λ rest. cond (is_owned owner s) (s ∷ rest) rest) (owned-change is change others keeps sessions))
      ] refl

  owned-drop : (is : OpenSession → Bool) → ((s : OpenSession) → is s ≡ true → is_owned owner s ≡ false) → (sessions : List OpenSession) → filter (is_owned owner) (drop_first is sessions) ≡ filter (is_owned owner) sessions
  owned-drop is others [] = refl
  owned-drop is others (s ∷ sessions) =
      elim (is s) as (λ b. is s ≡ b → filter (is_owned owner) (cond b sessions (s ∷ drop_first is sessions)) ≡ filter (is_owned owner) (s ∷ sessions)) [
        | true ↦ (λ e. ap (λ b. cond b (s ∷ filter (is_owned owner) sessions) (filter (is_owned owner) sessions)) (sym (others s e)))
        | false ↦ (λ e. ap (λ rest. cond (is_owned owner s) (s ∷ rest) rest) (owned-drop is others sessions))
      ] refl

  owned-left : (keeps : OpenSession → Bool) → ((s : OpenSession) → keeps s ≡ false → is_owned owner s ≡ false) → (sessions : List OpenSession) → filter (is_owned owner) (filter keeps sessions) ≡ filter (is_owned owner) sessions
  owned-left keeps others [] = refl
  owned-left keeps others (s ∷ sessions) =
      elim (keeps s) as (λ b. keeps s ≡ b → filter (is_owned owner) (cond b (s ∷ filter keeps sessions) (filter keeps sessions)) ≡ filter (is_owned owner) (s ∷ sessions)) [
        | true ↦ (λ e. ap (λ rest. cond (is_owned owner s) (s ∷ rest) rest) (owned-left keeps others sessions))
        | false ↦ (λ e. owned-left keeps others sessions ∙ ap (λ b. cond b (s ∷ filter (is_owned owner) sessions) (filter (is_owned owner) sessions)) (sym (others s e)))
      ] refl

-- what is read at another number than the one after all
numbered-beside : {A : Type 0} (xs : List A) (x : A) (number : ℕ) → (number == length xs + 1) ≡ false → numbered (xs ++ x ∷ []) number ≡ numbered xs number
numbered-beside xs x zero other = refl
numbered-beside [] x (suc zero) other = absurd cc
numbered-beside [] x (suc (suc place)) other = refl
numbered-beside (y ∷ xs) x (suc zero) other = refl
numbered-beside (y ∷ xs) x (suc (suc place)) other = numbered-beside xs x (suc place) (grind (arith, nat_tests))

-- ---- others' calls

-- what an owner has in a state, it has in a later one
record IsSameFor (owner : ℕ) (before later : State) : Type 0 where
  sessions : sessions_of later owner ≡ sessions_of before owner
  entered : numbered later.callers owner ≡ numbered before.callers owner

module _ (owner caller : ℕ) (other : (caller == owner) ≡ false) (before : State) where
  not-owned : (s : OpenSession) → is_owned caller s ≡ true → is_owned owner s ≡ false
  not-owned s of_caller = grind (arith, nat_tests)

  not-found : (number : ℕ) (s : OpenSession) → is_session caller number s ≡ true → is_owned owner s ≡ false
  not-found number s found = grind (arith, nat_tests)

  not-left : (s : OpenSession) → not (is_owned caller s) ≡ false → is_owned owner s ≡ false
  not-left s left = grind (arith, nat_tests)

  not-entered : (caller == length before.callers + 1) ≡ true → (owner == length before.callers + 1) ≡ false
  not-entered may = grind (arith, nat_tests)

  same : IsSameFor owner before before
  same = record { sessions = refl; entered = refl }

  others-keep : (said : Call) → may_make before caller said ≡ true → IsSameFor owner before (after caller said before)
  others-keep =
      step-gives (λ said result. may_make before caller said ≡ true → IsSameFor owner before (state_of before result)) caller before
      (λ said refusal is not_done may. same) (λ said refusal asking may. same)
      (λ may. record { sessions = refl; entered = numbered-beside before.callers newcomer owner (not-entered may) })
      (λ some may. record { sessions = owned-append owner before.sessions _ other; entered = change-beside with_opened before.callers caller owner other })
      (λ said local number selection may. record { sessions = owned-change owner (is_session caller number) (asking selection) (not-found number) (λ s. refl) before.sessions; entered = refl })
      (λ number version dropping carried live may. record { sessions = owned-change owner (is_session caller number) (at_version version carried.selection) (not-found number) (λ s. refl) before.sessions; entered = refl })
      (λ number may. record { sessions = owned-drop owner (is_session caller number) (not-found number) before.sessions; entered = refl })
      (λ base file may. record { sessions = refl; entered = refl })
      (λ version is free may. record { sessions = refl; entered = refl })
      (λ may. same)
      (λ may. record { sessions = owned-left owner (λ s. not (is_owned caller s)) not-left before.sessions; entered = change-beside gone before.callers caller owner other })

-- of entries none of which the owner made, the first and the rest are not its
first-other : (owner : ℕ) (entry : Entry) (entries : List Entry) → made (entry ∷ entries) owner ≡ [] → (entry.caller == owner) ≡ false
first-other owner entry entries none =
    elim (entry.caller == owner) as (λ b. cond b (entry ∷ made entries owner) (made entries owner) ≡ [] → b ≡ false) [
      | true ↦ (λ e. absurd (cc))
      | false ↦ (λ e. refl)
    ] none

rest-others : (owner : ℕ) (entry : Entry) (entries : List Entry) → made (entry ∷ entries) owner ≡ [] → made entries owner ≡ []
rest-others owner entry entries none =
    elim (entry.caller == owner) as (λ b. cond b (entry ∷ made entries owner) (made entries owner) ≡ [] → made entries owner ≡ []) [
      | true ↦ (λ e. absurd (cc))
      | false ↦ (λ e. e)
    ] none

same_from : (owner : ℕ) (state : State) (entries : List Entry) → IsLegalFrom state entries → made entries owner ≡ [] → IsSameFor owner state (after_entries state entries)
unfolding after_entries IsLegalFrom
same_from owner state [] legal none = record { sessions = refl; entered = refl }
same_from owner state (entry ∷ entries) legal none =
    let first = others-keep owner entry.caller (first-other owner entry entries none) state entry.call legal.0 in
    let rest = same_from owner (after_entry state entry) entries legal.2 (rest-others owner entry entries none) in
    record { sessions = rest.sessions ∙ first.sessions; entered = rest.entered ∙ first.entered }

files_from : (state : State) (entries : List Entry) (version : ℕ) (file : Contents) → file_of state version ≡ Some file → file_of (after_entries state entries) version ≡ Some file
unfolding after_entries
files_from state [] version file is = is
files_from state (entry ∷ entries) version file is = files_from (after_entry state entry) entries version file (keeps_file entry.caller entry.call state version file is)

pub files_keep : (history entries : List Entry) (version : ℕ) (file : Contents) → file_of (state_after history) version ≡ Some file → file_of (state_after (history ++ entries)) version ≡ Some file
files_keep history entries version file is =
    subst (λ s. file_of s version ≡ Some file) (sym (after_entries-append empty history entries)) (files_from (state_after history) entries version file is)

-- a caller's session of a number is found among its sessions
pub find-among_owned : (owner number : ℕ) (sessions : List OpenSession) → find (is_session owner number) sessions ≡ find (λ s. s.number == number) (filter (is_owned owner) sessions)
find-among_owned owner number [] = refl
find-among_owned owner number (s ∷ sessions) =
    elim (is_owned owner s) as (λ b. cond (b && (s.number == number)) (Some s) (find (is_session owner number) sessions) ≡ find (λ t. t.number == number) (cond b (s ∷ filter (is_owned owner) sessions) (filter (is_owned owner) sessions))) [
      | true ↦ ap (λ rest. cond (s.number == number) (Some s) rest) (find-among_owned owner number sessions)
      | false ↦ find-among_owned owner number sessions
    ]

same-session : (owner number : ℕ) (before later : State) → sessions_of later owner ≡ sessions_of before owner → session_of later owner number ≡ session_of before owner number
same-session owner number before later same =
    find-among_owned owner number later.sessions ∙ ap (find (λ (s : OpenSession). s.number == number)) same ∙ sym (find-among_owned owner number before.sessions)

-- ---- the reply to a session's own call

find-changed : (is : OpenSession → Bool) (change : OpenSession → OpenSession) → ((s : OpenSession) → is (change s) ≡ is s) → (sessions : List OpenSession) (s : OpenSession) → find is sessions ≡ Some s → find is (change_first is change sessions) ≡ Some (change s)
find-changed is change keeps [] s found = absurd cc
find-changed is change keeps (t ∷ sessions) s found =
    elim (is t) as (λ b. is t ≡ b → cond b (Some t) (find is sessions) ≡ Some s → find is (cond b (change t ∷ sessions) (t ∷ change_first is change sessions)) ≡ Some (change s)) [
      | true ↦ (λ e here. ap (λ b. cond b (Some (change t)) (find is sessions)) (keeps t ∙ e) ∙ ap (option_map change) here)
      | false ↦ (λ e here. ap (λ b. cond b (Some t) (find is (change_first is change sessions))) e ∙ find-changed is change keeps sessions s here)
    ] refl found

module _ (caller : ℕ) (state : State) where
  shown-at : ℕ → Decision State → Option Shown
  shown-at session (Ok later) = shown_of later caller session
  shown-at session (Err refusal) = None

  reply-with : ℕ → Decision State → Option Shown → Reply
  reply-with session result listing =
      record { head = record { session = session; version = version_in (state_of state result) caller session; outcome = outcome_of result; live = []; dropped = [] }; shown = listing }

  reply-at : ℕ → Decision State → Reply
  reply-at session result = reply-with session result (shown-at session result)

  shown-by : (said : Call) (session : ℕ) → ((later : State) → shown_by caller said (Ok later) ≡ shown_of later caller session) → (result : Decision State) → shown_by caller said result ≡ shown-at session result
  unfolding shown-at
  shown-by said session at (Ok later) = at later
  shown-by said session at (Err refusal) = refl

  in-reply : (said : Call) (session : ℕ) (ask : Contents → Selection → Decision Selection) → ((later : State) → shown_by caller said (Ok later) ≡ shown_of later caller session)
      → reply-with session (in_session caller session ask state) (shown_by caller said (in_session caller session ask state)) ≡ reply-at session (in_session caller session ask state)
  unfolding reply-at
  in-reply said session ask at = ap (reply-with session (in_session caller session ask state)) (shown-by said session at (in_session caller session ask state))

  reply-local : (said : Call) → IfSome (local_call said) (λ own. reply caller said state ≡ reply-at own.session (in_session caller own.session own.ask state))
  unfolding reply-with
  reply-local call.Enter = tt
  reply-local call.Open = tt
  reply-local (call.Show session) = in-reply (call.Show session) session show (λ later. refl)
  reply-local (call.Choose session variable value) = in-reply (call.Choose session variable value) session (choose variable value) (λ later. refl)
  reply-local (call.Retract session variable) = in-reply (call.Retract session variable) session (retract variable) (λ later. refl)
  reply-local (call.Bound session cost most) = in-reply (call.Bound session cost most) session (bound cost most) (λ later. refl)
  reply-local (call.Unbound session cost) = in-reply (call.Unbound session cost) session (unbound cost) (λ later. refl)
  reply-local (call.Rebase session version dropping) = tt
  reply-local (call.Close session) = tt
  reply-local (call.Publish base file) = tt
  reply-local (call.Reclaim version) = tt
  reply-local call.Versions = tt
  reply-local call.Leave = tt

  step-local : (said : Call) → IfSome (local_call said) (λ own. step caller said state ≡ in_session caller own.session own.ask state)
  step-local call.Enter = tt
  step-local call.Open = tt
  step-local (call.Show session) = refl
  step-local (call.Choose session variable value) = refl
  step-local (call.Retract session variable) = refl
  step-local (call.Bound session cost most) = refl
  step-local (call.Unbound session cost) = refl
  step-local (call.Rebase session version dropping) = tt
  step-local (call.Close session) = tt
  step-local (call.Publish base file) = tt
  step-local (call.Reclaim version) = tt
  step-local call.Versions = tt
  step-local call.Leave = tt

  none-asked : (session : ℕ) (ask : Contents → Selection → Decision Selection) → session_of state caller session ≡ None → in_session caller session ask state ≡ Err NoSession
  none-asked session ask none =
      ap (λ o. required o NoSession >>= (λ (s : OpenSession). required (file_of state s.version) NoSession >>= (λ file. ask file s.selection >>= (λ selection. Ok (with_selection caller session selection state))))) none

  none-told : (session : ℕ) (ask : Contents → Selection → Decision Selection) → session_of state caller session ≡ None → reply-at session (in_session caller session ask state) ≡ no_session session
  unfolding reply-at reply-with shown-at
  none-told session ask none =
      ap (reply-at session) (none-asked session ask none)
      ∙ ap (λ o. record { head = record { session = session; version = unwrap_or (option_map (λ (s : OpenSession). s.version) o) 0; outcome = NoSession; live = []; dropped = [] }; shown = None }) none

  module _ (session : ℕ) (ask : Contents → Selection → Decision Selection) (s : OpenSession) (file : Contents) (found : session_of state caller session ≡ Some s) (read : file_of state s.version ≡ Some file) where
    asked : in_session caller session ask state ≡ (ask file s.selection >>= (λ selection. Ok (with_selection caller session selection state)))
    asked =
        ap (λ o. required o NoSession >>= (λ (t : OpenSession). required (file_of state t.version) NoSession >>= (λ f. ask f t.selection >>= (λ selection. Ok (with_selection caller session selection state))))) found
        ∙ ap (λ o. required o NoSession >>= (λ f. ask f s.selection >>= (λ selection. Ok (with_selection caller session selection state)))) read

    given-told : (given : Decision Selection) → reply-at session (given >>= (λ selection. Ok (with_selection caller session selection state))) ≡ reply_by session s.version file given
    unfolding reply-at reply-with shown-at
    given-told (Ok selection) =
        let there : session_of (with_selection caller session selection state) caller session ≡ Some (asking selection s) = find-changed (is_session caller session) (asking selection) (λ t. refl) state.sessions s found in
        ap (λ o. record {
          head = record { session = session; version = unwrap_or (option_map (λ (t : OpenSession). t.version) o) 0; outcome = outcome_of (Ok (with_selection caller session selection state)); live = []; dropped = [] };
          shown = option_and_then (λ (t : OpenSession). option_map (λ f. record { file = f; listing = shown f t.selection }) (file_of state t.version)) o;
        }) there
        ∙ ap (λ o. record {
          head = record { session = session; version = s.version; outcome = outcome_of (Ok (with_selection caller session selection state)); live = []; dropped = [] };
          shown = option_map (λ f. record { file = f; listing = shown f selection }) o;
        }) read
    given-told (Err refusal) = ap (λ o. record { head = record { session = session; version = unwrap_or (option_map (λ (t : OpenSession). t.version) o) 0; outcome = refusal; live = []; dropped = [] }; shown = None }) found

    given-state : (given : Decision Selection) → state_of state (given >>= (λ selection. Ok (with_selection caller session selection state))) ≡ state_given caller session state given
    given-state (Ok selection) = refl
    given-state (Err refusal) = refl

  -- where the session is open
  pub local_reply : (said : Call) → IfSome (local_call said) (λ own. (s : OpenSession) (file : Contents) → session_of state caller own.session ≡ Some s → file_of state s.version ≡ Some file → reply caller said state ≡ reply_by own.session s.version file (own.ask file s.selection))
  local_reply said = from (local_call said) (reply-local said)
    where
      from : (local : Option LocalCall) → IfSome local (λ own. reply caller said state ≡ reply-at own.session (in_session caller own.session own.ask state)) → IfSome local (λ own. (s : OpenSession) (file : Contents) → session_of state caller own.session ≡ Some s → file_of state s.version ≡ Some file → reply caller said state ≡ reply_by own.session s.version file (own.ask file s.selection))
      from None is = tt
      from (Some own) is = λ s file found read. is ∙ ap (reply-at own.session) (asked own.session own.ask s file found read) ∙ given-told own.session own.ask s file found read (own.ask file s.selection)

  -- where there is no such session
  pub local_none : (said : Call) → IfSome (local_call said) (λ own. session_of state caller own.session ≡ None → reply caller said state ≡ no_session own.session)
  local_none said = from (local_call said) (reply-local said)
    where
      from : (local : Option LocalCall) → IfSome local (λ own. reply caller said state ≡ reply-at own.session (in_session caller own.session own.ask state)) → IfSome local (λ own. session_of state caller own.session ≡ None → reply caller said state ≡ no_session own.session)
      from None is = tt
      from (Some own) is = λ none. is ∙ none-told own.session own.ask none

  pub local_after : (said : Call) → IfSome (local_call said) (λ own. (s : OpenSession) (file : Contents) → session_of state caller own.session ≡ Some s → file_of state s.version ≡ Some file → after caller said state ≡ state_given caller own.session state (own.ask file s.selection))
  local_after said = from (local_call said) (step-local said)
    where
      from : (local : Option LocalCall) → IfSome local (λ own. step caller said state ≡ in_session caller own.session own.ask state) → IfSome local (λ own. (s : OpenSession) (file : Contents) → session_of state caller own.session ≡ Some s → file_of state s.version ≡ Some file → after caller said state ≡ state_given caller own.session state (own.ask file s.selection))
      from None is = tt
      from (Some own) is = λ s file found read. ap (state_of state) (is ∙ asked own.session own.ask s file found read) ∙ given-state own.session own.ask s file found read (own.ask file s.selection)

  pub local_after_none : (said : Call) → IfSome (local_call said) (λ own. session_of state caller own.session ≡ None → after caller said state ≡ state)
  local_after_none said = from (local_call said) (step-local said)
    where
      from : (local : Option LocalCall) → IfSome local (λ own. step caller said state ≡ in_session caller own.session own.ask state) → IfSome local (λ own. session_of state caller own.session ≡ None → after caller said state ≡ state)
      from None is = tt
      from (Some own) is = λ none. ap (state_of state) (is ∙ none-asked own.session own.ask none)

-- ---- the laws

-- a live version has a file
file-of-live : (found : Option Version) → unwrap_or (option_map (λ v. v.live) found) false ≡ true → (file : Contents) × option_map (λ v. v.file) found ≡ Some file
file-of-live None live = absurd cc
file-of-live (Some v) live = (v.file, refl)

live-file : (state : State) (version : ℕ) → is_live state version ≡ true → (file : Contents) × file_of state version ≡ Some file
live-file state version live = file-of-live (numbered state.versions version) live

pub found-has : (P : OpenSession → Type 0) (is : OpenSession → Bool) (sessions : List OpenSession) (s : OpenSession) → All P sessions → find is sessions ≡ Some s → P s
found-has P is [] s all found = absurd cc
found-has P is (t ∷ sessions) s all found =
    elim (is t) as (λ b. cond b (Some t) (find is sessions) ≡ Some s → P s) [
      | true ↦ (λ here. let same : t ≡ s = cc in subst P same (All-head P t sessions all))
      | false ↦ (λ here. found-has P is sessions s (All-tail P t sessions all) here)
    ] found

-- a session that is the same has the same replies
module _ (owner : ℕ) (before later : State) (sound : IsSound before) (same : sessions_of later owner ≡ sessions_of before owner)
    (files : (version : ℕ) (file : Contents) → file_of before version ≡ Some file → file_of later version ≡ Some file) where
  replies-by : (said : Call) (own : LocalCall) (found : Option OpenSession) → session_of before owner own.session ≡ found
      → (session_of before owner own.session ≡ None → reply owner said before ≡ no_session own.session)
      → (session_of later owner own.session ≡ None → reply owner said later ≡ no_session own.session)
      → ((s : OpenSession) (file : Contents) → session_of before owner own.session ≡ Some s → file_of before s.version ≡ Some file → reply owner said before ≡ reply_by own.session s.version file (own.ask file s.selection))
      → ((s : OpenSession) (file : Contents) → session_of later owner own.session ≡ Some s → file_of later s.version ≡ Some file → reply owner said later ≡ reply_by own.session s.version file (own.ask file s.selection))
      → reply owner said later ≡ reply owner said before
  replies-by said own None found none_before none_later told_before told_later =
      none_later (same-session owner own.session before later same ∙ found) ∙ sym (none_before found)
  replies-by said own (Some s) found none_before none_later told_before told_later =
      let read = live-file before s.version (found-has (λ t. is_live before t.version ≡ true) (is_session owner own.session) before.sessions s sound.sessions_live found) in
      told_later s read.0 (same-session owner own.session before later same ∙ found) (files s.version read.0 read.1) ∙ sym (told_before s read.0 found read.1)

  same-reply : (said : Call) → is_local said ≡ true → reply owner said later ≡ reply owner said before
  same-reply said local =
      from (local_call said) local (local_none owner before said) (local_none owner later said) (local_reply owner before said) (local_reply owner later said)
    where
      from : (asked : Option LocalCall) → is_some asked ≡ true
          → IfSome asked (λ own. session_of before owner own.session ≡ None → reply owner said before ≡ no_session own.session)
          → IfSome asked (λ own. session_of later owner own.session ≡ None → reply owner said later ≡ no_session own.session)
          → IfSome asked (λ own. (s : OpenSession) (file : Contents) → session_of before owner own.session ≡ Some s → file_of before s.version ≡ Some file → reply owner said before ≡ reply_by own.session s.version file (own.ask file s.selection))
          → IfSome asked (λ own. (s : OpenSession) (file : Contents) → session_of later owner own.session ≡ Some s → file_of later s.version ≡ Some file → reply owner said later ≡ reply_by own.session s.version file (own.ask file s.selection))
          → reply owner said later ≡ reply owner said before
      from None some none_before none_later told_before told_later = absurd cc
      from (Some own) some none_before none_later told_before told_later =
          replies-by said own (session_of before owner own.session) refl none_before none_later told_before told_later

module _ (history entries : List Entry) (owner : ℕ) (legal : IsLegal (history ++ entries)) (none : made entries owner ≡ []) where
  parts : IsLegal history × IsLegalFrom (state_after history) entries
  parts = legal-split empty history entries legal

  same-after : IsSameFor owner (state_after history) (state_after (history ++ entries))
  same-after = subst (IsSameFor owner (state_after history)) (sym (after_entries-append empty history entries)) (same_from owner (state_after history) entries parts.1 none)

  pub others_leave_sessions : sessions_of (state_after (history ++ entries)) owner ≡ sessions_of (state_after history) owner
  others_leave_sessions = same-after.sessions

  pub others_leave_caller : numbered (state_after (history ++ entries)).callers owner ≡ numbered (state_after history).callers owner
  others_leave_caller = same-after.entered

  pub others_leave_replies : (said : Call) → is_local said ≡ true → reply owner said (state_after (history ++ entries)) ≡ reply owner said (state_after history)
  others_leave_replies = same-reply owner (state_after history) (state_after (history ++ entries)) (legal_sound history parts.0) same-after.sessions (files_keep history entries)
