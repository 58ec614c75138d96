-- A call of a session, by its caller's own part and by the state.
use Rattle.std.proofs.Common.{◌≡◌, ℕ, ◌==◌, ◌&&◌, true, false, cond, List, [], ◌∷◌, ◌++◌, map, filter, find, Option, Some, None, Ok, Err, option_map, All, IfSome, refl, sym, subst, ap, ◌∙◌}
use Rattle.std.proofs.lemmas.List.{append_assoc}
use Rattle.std.proofs.lemmas.List.Elements.{All-nil, All-cons, All-append}
use Rattle.std.specs.Prelude.{is_some}
use Rattle.pc_file.specs.Contents.{Contents}
use Rattle.pc_calls.specs.declared.call.Call.{Call}
use Rattle.pc_calls.specs.declared.call.Call.TheVariants as call
use Rattle.pc_calls.specs.declared.entry.Entry.{Entry}
use Rattle.pc_calls.specs.declared.head.Head.{Head}
use Rattle.pc_calls.specs.declared.outcome.Outcome.TheVariants.{Done}
use Rattle.pc_calls.specs.declared.reply.Reply.{Reply}
use Rattle.pc_calls.specs.Decision.{Decision}
use Rattle.pc_calls.specs.Heads.{head, reply}
use Rattle.pc_calls.specs.History.{IsLegal, IsLegalFrom, after_entries, is_present, may_make, state_after}
use Rattle.pc_calls.specs.LocalReply.{is_local, local_call, no_session, reply_by, state_given}
use Rattle.pc_calls.specs.OwnedSessions.{sessions_of}
use Rattle.pc_calls.specs.Selection.{Selection, shown}
use Rattle.pc_calls.specs.State.{OpenSession, State, empty, file_of, is_owned, is_session, opened_by, session_of}
use Rattle.pc_calls.specs.Step.{after, asking, change_first, with_selection}
use Rattle.pc_calls.proofs.HistoryLemmas.{after_entries-append, legal-append}
use Rattle.pc_calls.proofs.OthersLaws.{local_after, local_after_none, local_none, local_reply}
use Rattle.pc_session.specs.Visit.{Visit, visit_after}
use Rattle.pc_book.specs.declared.change.Change.{Change}
use Rattle.pc_book.specs.declared.change.Change.TheVariants.{Choose, Retract, Bound, Unbound}
use Rattle.pc_book.specs.Change.{change_call, changed}
use Rattle.pc_book.specs.Own.{IsLocalOf, IsPartOf, OwnPart, Serves, StandsAfter, own_after, owned_by, state_with}
use Rattle.pc_book.specs.Visits.{has_number, plain_head, reply_among, reply_at, visit_reply, visits_after}
use Rattle.pc_book.proofs.VisitLemmas.{change-owned, find-owned, found-has, found-number, kept-after, none-leaves, refused-leaves}

-- a session of an owner is found among the owner's alone
pub find-own : (owner number : ℕ) (sessions : List OpenSession) → find (is_session owner number) sessions ≡ find (is_session owner number) (filter (is_owned owner) sessions)
find-own owner number [] = refl
find-own owner number (s ∷ sessions) =
    elim (is_owned owner s) as (λ b. is_owned owner s ≡ b → find (is_session owner number) (s ∷ sessions) ≡ find (is_session owner number) (cond b (s ∷ filter (is_owned owner) sessions) (filter (is_owned owner) sessions))) [
      | true ↦ (λ e. ap (λ rest. cond (is_session owner number s) (Some s) rest) (find-own owner number sessions))
      | false ↦ (λ e. ap (λ b. cond (b && (s.number == number)) (Some s) (find (is_session owner number) sessions)) e ∙ find-own owner number sessions)
    ] refl

-- and changed among them
module _ (owner number : ℕ) (change : OpenSession → OpenSession) (keeps : (s : OpenSession) → is_owned owner (change s) ≡ is_owned owner s) where
  -- where the first is the owner's
  changes-own : (s : OpenSession) (sessions : List OpenSession) → is_owned owner s ≡ true
      → filter (is_owned owner) (change_first (is_session owner number) change sessions) ≡ change_first (is_session owner number) change (filter (is_owned owner) sessions)
      → filter (is_owned owner) (change_first (is_session owner number) change (s ∷ sessions)) ≡ change_first (is_session owner number) change (s ∷ filter (is_owned owner) sessions)
  changes-own s sessions own rest =
      elim (is_session owner number s) as (λ b. filter (is_owned owner) (cond b (change s ∷ sessions) (s ∷ change_first (is_session owner number) change sessions)) ≡ cond b (change s ∷ filter (is_owned owner) sessions) (s ∷ change_first (is_session owner number) change (filter (is_owned owner) sessions))) [
        | true ↦ ap (λ b. cond b (change s ∷ filter (is_owned owner) sessions) (filter (is_owned owner) sessions)) (keeps s ∙ own)
        | false ↦ ap (λ b. cond b (s ∷ filter (is_owned owner) (change_first (is_session owner number) change sessions)) (filter (is_owned owner) (change_first (is_session owner number) change sessions))) own ∙ ap (λ ss. s ∷ ss) rest
      ]

  pub owned-changes : (sessions : List OpenSession) → filter (is_owned owner) (change_first (is_session owner number) change sessions) ≡ change_first (is_session owner number) change (filter (is_owned owner) sessions)
  owned-changes [] = refl
  owned-changes (s ∷ sessions) =
      elim (is_owned owner s) as (λ b. is_owned owner s ≡ b → filter (is_owned owner) (change_first (is_session owner number) change (s ∷ sessions)) ≡ change_first (is_session owner number) change (cond b (s ∷ filter (is_owned owner) sessions) (filter (is_owned owner) sessions))) [
        | true ↦ (λ e. changes-own s sessions e (owned-changes sessions))
        | false ↦ (λ e.
            ap (λ b. filter (is_owned owner) (cond (b && (s.number == number)) (change s ∷ sessions) (s ∷ change_first (is_session owner number) change sessions))) e
            ∙ ap (λ b. cond b (s ∷ filter (is_owned owner) (change_first (is_session owner number) change sessions)) (filter (is_owned owner) (change_first (is_session owner number) change sessions))) e
            ∙ owned-changes sessions)
      ] refl

same-file : (state : State) (visit : Visit) (result : Decision Selection) → file_of state visit.version ≡ Some visit.file → file_of state (visit_after visit result).version ≡ Some (visit_after visit result).file
same-file state visit (Ok selection) read = read
same-file state visit (Err refusal) read = read

-- A session's own call, where the state has of the caller what its part has.
module _ (state : State) (own : OwnPart) (part : IsPartOf state own) (said : Call) (session : ℕ) (ask : Contents → Selection → Decision Selection) (local : local_call said ≡ Some (record { session = session; ask = ask })) where
  -- what it comes to
  pub record Does : Type 0 where
    pub answer : reply own.number said state ≡ reply_among session ask own.sessions
    pub kept : IsPartOf (after own.number said state) (own_after said session ask own)
    pub callers : (after own.number said state).callers ≡ state.callers

  there : (found : Option Visit) → find (has_number session) own.sessions ≡ found → session_of state own.number session ≡ option_map (owned_by own.number) found
  there found e =
      find-own own.number session state.sessions ∙ ap (find (is_session own.number session)) part.sessions ∙ find-owned own.number session own.sessions ∙ ap (option_map (owned_by own.number)) e

  -- nothing changes
  stays : (later : State) → later ≡ state → visits_after session ask own.sessions ≡ own.sessions → IsPartOf later (own_after said session ask own)
  stays later same visits = record {
    sessions = ap (λ s. sessions_of s own.number) same ∙ part.sessions ∙ ap (map (owned_by own.number)) (sym visits);
    files = subst (λ vs. All (λ v. file_of later v.version ≡ Some v.file) vs) (sym visits) (subst (λ s. All (λ v. file_of s v.version ≡ Some v.file) own.sessions) (sym same) part.files);
    opened = ap (λ s. opened_by s own.number) same ∙ part.opened;
  }

  -- the session asks something else
  changes : (later : State) (visit : Visit) (selection : Selection) → later ≡ with_selection own.number session selection state → find (has_number session) own.sessions ≡ Some visit → ask visit.file visit.selection ≡ Ok selection → IsPartOf later (own_after said session ask own)
  changes later visit selection same e gives = subst (λ s. IsPartOf s (own_after said session ask own)) (sym same) (record {
    sessions = owned-changes own.number session (asking selection) (λ s. refl) state.sessions ∙ ap (change_first (is_session own.number session) (asking selection)) part.sessions ∙ change-owned own.number session ask own.sessions visit selection e gives;
    files = kept-after (λ v. file_of state v.version ≡ Some v.file) (same-file state) session ask own.sessions part.files;
    opened = part.opened;
  })

  by-visit : (visit : Visit) (result : Decision Selection) → visit.number ≡ session → reply_by session visit.version visit.file result ≡ visit_reply visit result
  by-visit visit (Ok selection) same = ap (λ (n : ℕ). record { head = plain_head n visit.version Done; shown = Some (record { file = visit.file; listing = shown visit.file selection }) }) (sym same)
  by-visit visit (Err refusal) same = ap (λ (n : ℕ). record { head = plain_head n visit.version refusal; shown = None }) (sym same)

  -- by what the session gives
  given-by : (visit : Visit) (result : Decision Selection) → find (has_number session) own.sessions ≡ Some visit → ask visit.file visit.selection ≡ result → after own.number said state ≡ state_given own.number session state result
      → IsPartOf (after own.number said state) (own_after said session ask own) × ((after own.number said state).callers ≡ state.callers)
  given-by visit (Ok selection) e gives is = (changes _ visit selection is e gives, ap (λ (s : State). s.callers) is)
  given-by visit (Err refusal) e gives is = (stays _ is (refused-leaves session ask own.sessions visit refusal e gives), ap (λ (s : State). s.callers) is)

  does-at : (found : Option Visit) → find (has_number session) own.sessions ≡ found → Does
  does-at None e =
      let is = subst (λ o. IfSome o (λ l. session_of state own.number l.session ≡ None → after own.number said state ≡ state)) local (local_after_none own.number state said) (there None e) in
      record {
        answer = subst (λ o. IfSome o (λ l. session_of state own.number l.session ≡ None → reply own.number said state ≡ no_session l.session)) local (local_none own.number state said) (there None e) ∙ ap (reply_at session ask) (sym e);
        kept = stays _ is (none-leaves session ask own.sessions e);
        callers = ap (λ (s : State). s.callers) is;
      }
  does-at (Some visit) e =
      let read : file_of state visit.version ≡ Some visit.file = found-has (λ v. file_of state v.version ≡ Some v.file) (has_number session) own.sessions visit part.files e in
      let is = subst (λ o. IfSome o (λ l. (s : OpenSession) (file : Contents) → session_of state own.number l.session ≡ Some s → file_of state s.version ≡ Some file → after own.number said state ≡ state_given own.number l.session state (l.ask file s.selection))) local (local_after own.number state said) (owned_by own.number visit) visit.file (there (Some visit) e) read in
      let given = given-by visit (ask visit.file visit.selection) e refl is in
      record {
        answer = subst (λ o. IfSome o (λ l. (s : OpenSession) (file : Contents) → session_of state own.number l.session ≡ Some s → file_of state s.version ≡ Some file → reply own.number said state ≡ reply_by l.session s.version file (l.ask file s.selection))) local (local_reply own.number state said) (owned_by own.number visit) visit.file (there (Some visit) e) read
            ∙ by-visit visit (ask visit.file visit.selection) (found-number session own.sessions visit e) ∙ ap (reply_at session ask) (sym e);
        kept = given.0;
        callers = given.1;
      }

  pub does : Does
  does = does-at (find (has_number session) own.sessions) refl

-- ---- after a history

-- a caller that is there may make a session's own call
local-may : (state : State) (caller : ℕ) (said : Call) → is_local said ≡ true → is_present state caller ≡ true → may_make state caller said ≡ true
local-may state caller call.Enter local present = absurd cc
local-may state caller call.Open local present = present
local-may state caller (call.Show session) local present = present
local-may state caller (call.Choose session variable value) local present = present
local-may state caller (call.Retract session variable) local present = present
local-may state caller (call.Bound session cost most) local present = present
local-may state caller (call.Unbound session cost) local present = present
local-may state caller (call.Rebase session version dropping) local present = present
local-may state caller (call.Close session) local present = present
local-may state caller (call.Publish base file) local present = present
local-may state caller (call.Reclaim version) local present = present
local-may state caller call.Versions local present = present
local-may state caller call.Leave local present = present

-- the state and the history after one entry more
pub after-more : (history : List Entry) (pending : List Entry) (entry : Entry) → state_after (history ++ (pending ++ entry ∷ [])) ≡ after entry.caller entry.call (state_after (history ++ pending))
unfolding after_entries
after-more history pending entry =
    ap state_after (sym (append_assoc history pending (entry ∷ []))) ∙ after_entries-append empty (history ++ pending) (entry ∷ [])

pub legal-more : (history pending : List Entry) (entry : Entry) → IsLegal (history ++ pending) → may_make (state_after (history ++ pending)) entry.caller entry.call ≡ true → entry.head ≡ head entry.caller entry.call (state_after (history ++ pending)) → IsLegal (history ++ (pending ++ entry ∷ []))
unfolding IsLegalFrom
legal-more history pending entry legal may told =
    subst IsLegal (append_assoc history pending (entry ∷ [])) (legal-append empty (history ++ pending) (entry ∷ []) legal (may, told, tt))

module _ (history : List Entry) (own : OwnPart) (stands : StandsAfter history own) (said : Call) (session : ℕ) (ask : Contents → Selection → Decision Selection) (local : local_call said ≡ Some (record { session = session; ask = ask })) where
  here : State
  here = state_with history own

  made : Does (state_with history own) own stands.part said session ask local
  made = does (state_with history own) own stands.part said session ask local

  told : (reply_among session ask own.sessions).head ≡ head own.number said (state_with history own)
  told = ap (λ (r : Reply). r.head) (sym made.answer)

  is-own : is_local said ≡ true
  is-own = ap is_some local

  stands-later : StandsAfter history (own_after said session ask own)
  stands-later =
      let entry : Entry = record { caller = own.number; call = said; head = (reply_among session ask own.sessions).head } in
      let is = after-more history own.pending entry in
      record {
        entered = ap (λ s. is_present s own.number) is ∙ ap (λ cs. is_present (record { versions = (after own.number said (state_with history own)).versions; callers = cs; sessions = (after own.number said (state_with history own)).sessions }) own.number) made.callers ∙ stands.entered;
        local = All-append (IsLocalOf own.number) own.pending (entry ∷ []) stands.local (All-cons (IsLocalOf own.number) entry [] (refl, is-own) (All-nil (IsLocalOf own.number)));
        legal = legal-more history own.pending entry stands.legal (local-may (state_with history own) own.number said is-own stands.entered) told;
        part = subst (λ s. IsPartOf s (own_after said session ask own)) (sym is) made.kept;
      }

  pub serves : Serves said own (own_after said session ask own) (reply_among session ask own.sessions) history
  serves = record {
    entry = ap (λ h. own.pending ++ record { caller = own.number; call = said; head = h } ∷ []) told;
    answer = sym made.answer;
    stands = stands-later;
  }

-- ---- for the answers

pub is_change : (session : ℕ) (change : Change) → local_call (change_call session change) ≡ Some (record { session = session; ask = changed change })
is_change session (Choose variable value) = refl
is_change session (Retract variable) = refl
is_change session (Bound cost most) = refl
is_change session (Unbound cost) = refl

-- a reply's head lists nothing
plain-visit : (visit : Visit) (result : Decision Selection) → (visit_reply visit result).head ≡ plain_head (visit_reply visit result).head.session (visit_reply visit result).head.version (visit_reply visit result).head.outcome
plain-visit visit (Ok selection) = refl
plain-visit visit (Err refusal) = refl

plain-at : (session : ℕ) (ask : Contents → Selection → Decision Selection) (found : Option Visit) → (reply_at session ask found).head ≡ plain_head (reply_at session ask found).head.session (reply_at session ask found).head.version (reply_at session ask found).head.outcome
plain-at session ask None = refl
plain-at session ask (Some visit) = plain-visit visit (ask visit.file visit.selection)

pub plain_reply : (session : ℕ) (ask : Contents → Selection → Decision Selection) (visits : List Visit) → plain_head (reply_among session ask visits).head.session (reply_among session ask visits).head.version (reply_among session ask visits).head.outcome ≡ (reply_among session ask visits).head
plain_reply session ask visits = sym (plain-at session ask (find (has_number session) visits))

abbrev pub own_of : ℕ → ℕ → List Visit → List Entry → OwnPart
own_of number opened visits pending = record { number = number; opened = opened; sessions = visits; pending = pending }

-- the part with the new entry, and with what the sessions became, is the part after the call
pub part_after : (before : OwnPart) (said : Call) (session : ℕ) (ask : Contents → Selection → Decision Selection) (answer : Reply) (opened : ℕ) (visits : List Visit) (pending earlier : List Entry) (entry : Entry)
    → answer ≡ reply_among session ask before.sessions → opened ≡ before.opened → visits ≡ visits_after session ask before.sessions → earlier ≡ before.pending
    → entry ≡ record { caller = before.number; call = said; head = plain_head answer.head.session answer.head.version answer.head.outcome } → pending ≡ earlier ++ entry ∷ []
    → own_of before.number opened visits pending ≡ own_after said session ask before
part_after before said session ask answer opened visits pending earlier entry answers opens visited kept noted more =
    let noted_head : Head → Entry = λ h. record { caller = before.number; call = said; head = h } in
    let same_entry : entry ≡ noted_head (reply_among session ask before.sessions).head =
    noted ∙ ap (λ (r : Reply). noted_head (plain_head r.head.session r.head.version r.head.outcome)) answers ∙ ap noted_head (plain_reply session ask before.sessions) in
    ap (own_of before.number opened visits) (more ∙ ap (λ es. es ++ entry ∷ []) kept ∙ ap (λ e. before.pending ++ e ∷ []) same_entry)
    ∙ ap (λ vs. own_of before.number opened vs (before.pending ++ noted_head (reply_among session ask before.sessions).head ∷ [])) visited
    ∙ ap (λ n. own_of before.number n (visits_after session ask before.sessions) (before.pending ++ noted_head (reply_among session ask before.sessions).head ∷ [])) opens

-- and serves
pub serves_by : (before later : OwnPart) (said : Call) (session : ℕ) (ask : Contents → Selection → Decision Selection) (answer : Reply) → local_call said ≡ Some (record { session = session; ask = ask })
    → answer ≡ reply_among session ask before.sessions → later ≡ own_after said session ask before → (history : List Entry) → StandsAfter history before → Serves said before later answer history
serves_by before later said session ask answer local answers is history stands =
    subst (λ r. Serves said before later r history) (sym answers) (subst (λ l. Serves said before l (reply_among session ask before.sessions) history) (sym is) (serves history before stands said session ask local))
