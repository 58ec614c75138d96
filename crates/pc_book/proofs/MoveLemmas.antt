-- What a rebase comes to, by the part and by the state.
use Rattle.std.proofs.Common.{◌≡◌, ℕ, ◌+◌, ◌-◌, ◌<◌, ◌≤◌, ◌==◌, ◌^◌, Bool, true, false, not, ◌&&◌, cond, List, [], ◌∷◌, ◌++◌, map, find, count_by, Option, Some, None, Ok, Err, option_map, All, refl, sym, subst, ap, ◌∙◌, arith}
use Rattle.std.specs.List.{position}
use Rattle.std.specs.Prelude.{is_some, option_and_then, unwrap_or}
use Rattle.std.proofs.lemmas.Bool.Decides.{nat_tests}
use Rattle.std.proofs.lemmas.List.Elements.{All-head, All-map, All-tail, All-cons, All-weaker}
use Rattle.std.proofs.lemmas.List.Sums.{sum_by-cons}
use Rattle.pc_diagram.specs.declared.listed.Listed.{Listed}
use Rattle.pc_file.specs.Contents.{Contents}
use Rattle.pc_calls.specs.declared.call.Call.TheVariants.{Rebase}
use Rattle.pc_calls.specs.declared.dropped.Dropped.{Dropped}
use Rattle.pc_calls.specs.declared.entry.Entry.{Entry}
use Rattle.pc_calls.specs.declared.head.Head.{Head}
use Rattle.pc_calls.specs.declared.outcome.Outcome.{Outcome}
use Rattle.pc_calls.specs.declared.outcome.Outcome.TheVariants.{Done, NoSession, NotLive, SameVersion}
use Rattle.pc_calls.specs.declared.reply.Reply.{Reply}
use Rattle.pc_calls.specs.Carry.{Carried, moved_to}
use Rattle.pc_calls.specs.Decision.{Decision, ◌>>=◌, ◌>>◌, refused_where, required}
use Rattle.pc_calls.specs.Heads.{dropped_by, reply}
use Rattle.pc_calls.specs.History.{is_present}
use Rattle.pc_calls.specs.Selection.{shown}
use Rattle.pc_calls.specs.State.{OpenSession, State, Version, file_of, is_live, is_session, numbered, pins, session_of, version_in}
use Rattle.pc_calls.specs.Step.{after, at_version, change_first, move, state_of, step}
use Rattle.pc_session.specs.Rebased.{IsRebased}
use Rattle.pc_session.specs.Visit.{Visit}
use Rattle.pc_session.specs.declared.rebased.Rebased.{Rebased}
use Rattle.pc_session.specs.declared.rebased.Rebased.TheVariants.{Ready, Refused}
use Rattle.pc_book.specs.declared.shelf.Shelf.{Shelf}
use Rattle.pc_book.specs.Book.{IsBook, IsKeptOf, history_of, state_of_book, with_entry}
use Rattle.pc_book.specs.Own.{IsPartOf, OwnPart, StandsAfter, owned_by, state_with}
use Rattle.pc_book.specs.Rebases.{IsMade, IsMadeAt, IsPrepared, given_by, given_made, rebase_given, stays_at, visit_version, with_ready, with_visit}
use Rattle.pc_book.specs.Sharing.{Brings, IsSeen}
use Rattle.pc_book.specs.Shelves.{holds, one_at, repinned, shelved, shelves_of}
use Rattle.pc_book.specs.Visits.{close_reply, has_number, plain_head}
use Rattle.pc_book.proofs.BookLemmas.{pending-alike, shelves-agree, shelves-repinned}
use Rattle.pc_book.proofs.CloseLemmas.{enough-closed, same-test}
use Rattle.pc_book.proofs.LeaveLemmas.{count-dropped}
use Rattle.pc_book.proofs.OwnLemmas.{find-own, owned-changes}
use Rattle.pc_book.proofs.RebaseLemmas.{target-found, target-none}
use Rattle.pc_book.proofs.SharingLemmas.{reply_of}
use Rattle.pc_book.proofs.ShelfPlaces.{nowhere-found, place-finds-some}
use Rattle.pc_book.proofs.VisitLemmas.{find-owned, found-has, found-number, self-same}

-- ---- the version that is aimed at

pub live-told : (shelves : List Shelf) (state : State) (version : ℕ) → map shelved shelves ≡ shelves_of state → is_some (position (holds version) shelves) ≡ is_live state version
live-told shelves state version is = by (position (holds version) shelves) refl
  where
    by : (found : Option ℕ) → position (holds version) shelves ≡ found → is_some found ≡ is_live state version
    by None e = sym (target-none shelves state version is (nowhere-found (holds version) shelves e))
    by (Some place) e =
        let there = place-finds-some (holds version) shelves place e in
        sym (target-found shelves state version is there.0 there.1).0

-- a live version has a file
live-file : (state : State) (version : ℕ) → is_live state version ≡ true → (file : Contents) × (file_of state version ≡ Some file)
live-file state version live = by (numbered state.versions version) live
  where
    by : (found : Option Version) → unwrap_or (option_map (λ v. v.live) found) false ≡ true → (file : Contents) × (option_map (λ v. v.file) found ≡ Some file)
    by None e = absurd cc
    by (Some v) e = (v.file, refl)

-- what was made by the state of the book was made by the state after the entries that wait
pub made-with : (blocks : List (List Entry)) (own : OwnPart) → StandsAfter (history_of blocks) own → (session version : ℕ) (dropping : Bool) (made : Option Rebased) → IsMadeAt (state_of_book blocks) own session version dropping made → IsMadeAt (state_with (history_of blocks) own) own session version dropping made
made-with blocks own stands session version dropping made is file live read =
    let same = sym (pending-alike (history_of blocks) own stands).versions in
    is file (ap (λ (vs : List Version). unwrap_or (option_map (λ (v : Version). v.live) (numbered vs version)) false) same ∙ live) (ap (λ (vs : List Version). option_map (λ (v : Version). v.file) (numbered vs version)) same ∙ read)

-- ---- counts

-- the first session that a test finds is counted as what it becomes
count-changed : (test is : OpenSession → Bool) (change : OpenSession → OpenSession) (sessions : List OpenSession) (s : OpenSession) → find is sessions ≡ Some s → count_by test (change_first is change sessions) + cond (test s) 1 0 ≡ count_by test sessions + cond (test (change s)) 1 0
count-changed test is change [] s found = absurd cc
count-changed test is change (t ∷ sessions) s found =
    elim (is t) as (λ b. cond b (Some t) (find is sessions) ≡ Some s → count_by test (cond b (change t ∷ sessions) (t ∷ change_first is change sessions)) + cond (test s) 1 0 ≡ count_by test (t ∷ sessions) + cond (test (change s)) 1 0) [
      | true ↦ (λ here.
          let same : t ≡ s = cc in
          let was : cond {A = ℕ} (test t) 1 0 ≡ cond (test s) 1 0 = ap (λ u. cond (test u) 1 0) same in
          let becomes : cond {A = ℕ} (test (change t)) 1 0 ≡ cond (test (change s)) 1 0 = ap (λ u. cond (test (change u)) 1 0) same in
          omega (arith, one t sessions, one (change t) sessions, was, becomes))
      | false ↦ (λ here. omega (arith, one t sessions, one t (change_first is change sessions), count-changed test is change sessions s here))
    ] found
  where
    one : (u : OpenSession) (us : List OpenSession) → count_by test (u ∷ us) ≡ cond (test u) 1 0 + count_by test us
    one u us = sum_by-cons (λ w. cond (test w) 1 0) u us

find-changed : (is : OpenSession → Bool) (change : OpenSession → OpenSession) → ((s : OpenSession) → is (change s) ≡ is s) → (sessions : List OpenSession) (s : OpenSession) → find is sessions ≡ Some s → find is (change_first is change sessions) ≡ Some (change s)
find-changed is change keeps [] s found = absurd cc
find-changed is change keeps (t ∷ sessions) s found =
    elim (is t) as (λ b. is t ≡ b → cond b (Some t) (find is sessions) ≡ Some s → find is (cond b (change t ∷ sessions) (t ∷ change_first is change sessions)) ≡ Some (change s)) [
      | true ↦ (λ e here. ap (λ b. cond b (Some (change t)) (find is sessions)) (keeps t ∙ e) ∙ ap (option_map change) here)
      | false ↦ (λ e here. ap (λ b. cond b (Some t) (find is (change_first is change sessions))) e ∙ find-changed is change keeps sessions s here)
    ] refl found

-- ---- the part's sessions with the one that is ready

ready-owned : (owner : ℕ) (ready : Visit) (visits : List Visit) → change_first (is_session owner ready.number) (at_version ready.version ready.selection) (map (owned_by owner) visits) ≡ map (owned_by owner) (with_visit ready visits)
ready-owned owner ready [] = refl
ready-owned owner ready (v ∷ visits) =
    ap (λ b. cond (b && (v.number == ready.number)) (moved v ∷ map (owned_by owner) visits) (owned_by owner v ∷ change_first (is_session owner ready.number) (at_version ready.version ready.selection) (map (owned_by owner) visits))) (self-same owner)
    ∙ elim (v.number == ready.number) as (λ b. (v.number == ready.number) ≡ b → cond b (moved v ∷ map (owned_by owner) visits) (owned_by owner v ∷ change_first (is_session owner ready.number) (at_version ready.version ready.selection) (map (owned_by owner) visits)) ≡ map (owned_by owner) (cond b (ready ∷ visits) (v ∷ with_visit ready visits))) [
      | true ↦ (λ test.
          let same : v.number ≡ ready.number = grind (arith, nat_tests, test) in
          ap (λ (n : ℕ). record { owner = owner; number = n; version = ready.version; selection = ready.selection } ∷ map (owned_by owner) visits) same)
      | false ↦ (λ test. ap (λ (ss : List OpenSession). owned_by owner v ∷ ss) (ready-owned owner ready visits))
    ] refl
  where
    moved : Visit → OpenSession
    moved w = at_version ready.version ready.selection (owned_by owner w)

kept-ready : (P : Visit → Type 0) (ready : Visit) → P ready → (visits : List Visit) → All P visits → All P (with_visit ready visits)
kept-ready P ready is [] all = all
kept-ready P ready is (v ∷ visits) all =
    elim (v.number == ready.number) as (λ b. All P (cond b (ready ∷ visits) (v ∷ with_visit ready visits))) [
      | true ↦ All-cons P ready visits is (All-tail P v visits all)
      | false ↦ All-cons P v (with_visit ready visits) (All-head P v visits all) (kept-ready P ready is visits (All-tail P v visits all))
    ]

-- ---- the step, by its tests

abbrev aimed : State → ℕ → Bool → OpenSession → Contents → Decision Carried
aimed state version dropping s file = required (file_of state version) (NotLive version) >>= (λ target. moved_to dropping file target s.selection)

abbrev of-live : State → ℕ → Bool → OpenSession → Bool → Decision Carried
of-live state version dropping s live = refused_where (not live) (NotLive version) >> (required (file_of state s.version) NoSession >>= aimed state version dropping s)

abbrev of-other : State → ℕ → Bool → OpenSession → Bool → Decision Carried
of-other state version dropping s same = refused_where same SameVersion >> of-live state version dropping s (is_live state version)

abbrev of-found : State → ℕ → Bool → Option OpenSession → Decision Carried
of-found state version dropping o = required o NoSession >>= (λ s. of-other state version dropping s (version == s.version))

abbrev moved-state : ℕ → ℕ → State → ℕ → Carried → State
moved-state owner session state version moved =
    record { versions = state.versions; callers = state.callers; sessions = change_first (is_session owner session) (at_version version moved.selection) state.sessions }

abbrev version-told : Option OpenSession → ℕ
version-told o = unwrap_or (option_map (λ s. s.version) o) 0

-- the state where a session is at the version of the one that is ready
abbrev ready-state : ℕ → ℕ → State → Visit → State
ready-state owner session state ready =
    record { versions = state.versions; callers = state.callers; sessions = change_first (is_session owner session) (at_version ready.version ready.selection) state.sessions }

-- ---- the reply, and what becomes of the state

module _ (state : State) (own : OwnPart) (part : IsPartOf state own) (session version : ℕ) (dropping : Bool) where
  -- a session moves
  pub record Moves (ready : Visit) : Type 0 where
    pub number : ready.number ≡ session
    pub version_is : ready.version ≡ version
    pub file : file_of state version ≡ Some ready.file
    pub becomes : after own.number (Rebase session version dropping) state ≡ ready-state own.number session state ready
    pub visit : Visit
    pub found : find (has_number session) own.sessions ≡ Some visit

  -- or nothing changes
  abbrev pub Becomes : Option Visit → Type 0
  Becomes None = after own.number (Rebase session version dropping) state ≡ state
  Becomes (Some ready) = Moves ready

  pub record Rebases (given : Reply × Option Visit) : Type 0 where
    pub answer : given.0 ≡ reply own.number (Rebase session version dropping) state
    pub becomes : Becomes given.1

  there : (found : Option Visit) → find (has_number session) own.sessions ≡ found → session_of state own.number session ≡ option_map (owned_by own.number) found
  there found e =
      find-own own.number session state.sessions ∙ ap (find (is_session own.number session)) part.sessions ∙ find-owned own.number session own.sessions ∙ ap (option_map (owned_by own.number)) e

  steps : (decided : Decision Carried) → move own.number session version dropping state ≡ decided → step own.number (Rebase session version dropping) state ≡ (decided >>= (λ moved. Ok (moved-state own.number session state version moved)))
  steps decided gives = ap (λ (d : Decision Carried). d >>= (λ moved. Ok (moved-state own.number session state version moved))) gives

  refuses : (at : ℕ) (refusal : Outcome) → move own.number session version dropping state ≡ Err refusal → at ≡ version_in state own.number session → Rebases (stays_at session at refusal)
  refuses at refusal gives is = record {
    answer =
        ap (λ (n : ℕ). record { head = plain_head session n refusal; shown = None }) is
        ∙ ap (λ (d : Decision Carried). record { head = record { session = session; version = version_in state own.number session; outcome = refusal; live = []; dropped = dropped_by d }; shown = None }) (sym gives)
        ∙ ap (reply_of own.number (Rebase session version dropping) state) (sym (steps (Err refusal) gives));
    becomes = ap (state_of state) (steps (Err refusal) gives);
  }

  goes : (visit : Visit) → find (has_number session) own.sessions ≡ Some visit → (file : Contents) → file_of state version ≡ Some file → (moved : Carried) → move own.number session version dropping state ≡ Ok moved
      → (ready : Visit) (listing : List (List Listed)) (dropped : List Dropped) → IsRebased visit.number version file (Ok moved) (Ready ready listing dropped) → Rebases (given_by session visit.version (Ready ready listing dropped))
  goes visit e file read moved gives ready listing dropped is =
      let later : State = moved-state own.number session state version moved in
      let found : session_of (moved-state own.number session state version moved) own.number session ≡ Some (at_version version moved.selection (owned_by own.number visit)) =
      find-changed (is_session own.number session) (at_version version moved.selection) (λ s. refl) state.sessions (owned_by own.number visit) (there (Some visit) e) in
      record {
        answer =
            ap (λ (v : Visit). record { head = record { session = session; version = v.version; outcome = Done; live = []; dropped = dropped }; shown = Some (record { file = v.file; listing = listing }) }) is.0
            ∙ ap (λ (l : List (List Listed)). record { head = record { session = session; version = version; outcome = Done; live = []; dropped = dropped }; shown = Some (record { file = file; listing = l }) }) is.1
            ∙ ap (λ (d : List Dropped). record { head = record { session = session; version = version; outcome = Done; live = []; dropped = d }; shown = Some (record { file = file; listing = shown file moved.selection }) }) is.2
            ∙ ap (λ (o : Option Contents). record { head = record { session = session; version = version; outcome = Done; live = []; dropped = moved.dropped }; shown = option_map (λ f. record { file = f; listing = shown f moved.selection }) o }) (sym read)
            ∙ ap (λ (o : Option OpenSession). record {
              head = record { session = session; version = version-told o; outcome = Done; live = []; dropped = moved.dropped };
              shown = option_and_then (λ (s : OpenSession). option_map (λ f. record { file = f; listing = shown f s.selection }) (file_of state s.version)) o;
            }) (sym found)
            ∙ ap (λ (d : Decision Carried). record {
              head = record { session = session; version = version_in later own.number session; outcome = Done; live = []; dropped = dropped_by d };
              shown = option_and_then (λ (s : OpenSession). option_map (λ f. record { file = f; listing = shown f s.selection }) (file_of state s.version)) (session_of later own.number session);
            }) (sym gives)
            ∙ ap (reply_of own.number (Rebase session version dropping) state) (sym (steps (Ok moved) gives));
        becomes = record {
          number = ap (λ (v : Visit). v.number) is.0 ∙ found-number session own.sessions visit e;
          version_is = ap (λ (v : Visit). v.version) is.0;
          file = read ∙ ap (λ (v : Visit). Some v.file) (sym is.0);
          becomes = ap (state_of state) (steps (Ok moved) gives) ∙ ap (ready-state own.number session state) (sym is.0);
          visit = visit;
          found = e;
        };
      }

  -- by what was decided and made
  by-decided : (visit : Visit) → find (has_number session) own.sessions ≡ Some visit → (file : Contents) → file_of state version ≡ Some file → (decided : Decision Carried) → move own.number session version dropping state ≡ decided
      → (made : Rebased) → IsRebased visit.number version file decided made → Rebases (given_by session visit.version made)
  by-decided visit e file read (Ok moved) gives (Ready ready listing dropped) is = goes visit e file read moved gives ready listing dropped is
  by-decided visit e file read (Ok moved) gives (Refused refusal) is = absurd is
  by-decided visit e file read (Err refused) gives (Ready ready listing dropped) is = absurd is
  by-decided visit e file read (Err refused) gives (Refused refusal) is = refuses visit.version refusal (gives ∙ ap Err (sym is)) (ap version-told (sym (there (Some visit) e)))

  by-made : (visit : Visit) → find (has_number session) own.sessions ≡ Some visit → (file : Contents) → file_of state version ≡ Some file → move own.number session version dropping state ≡ moved_to dropping visit.file file visit.selection
      → (made : Option Rebased) → IsMade false visit version file dropping made → Rebases (given_made session visit.version made)
  by-made visit e file read gives None is = absurd is
  by-made visit e file read gives (Some made) is = by-decided visit e file read (moved_to dropping visit.file file visit.selection) gives made is

  by-live : (visit : Visit) → find (has_number session) own.sessions ≡ Some visit → move own.number session version dropping state ≡ of-live state version dropping (owned_by own.number visit) (is_live state version)
      → (made : Option Rebased) → ((file : Contents) → is_live state version ≡ true → file_of state version ≡ Some file → IsMade false visit version file dropping made)
      → (live : Bool) → is_live state version ≡ live → Rebases (cond (not live) (stays_at session visit.version (NotLive version)) (given_made session visit.version made))
  by-live visit e gives made is false dead = refuses visit.version (NotLive version) (gives ∙ ap (of-live state version dropping (owned_by own.number visit)) dead) (ap version-told (sym (there (Some visit) e)))
  by-live visit e gives made is true live =
      let target = live-file state version live in
      let read : file_of state visit.version ≡ Some visit.file = found-has (λ v. file_of state v.version ≡ Some v.file) (has_number session) own.sessions visit part.files e in
      by-made visit e target.0 target.1
      (gives
      ∙ ap (of-live state version dropping (owned_by own.number visit)) live
      ∙ ap (λ (o : Option Contents). required o NoSession >>= aimed state version dropping (owned_by own.number visit)) read
      ∙ ap (λ (o : Option Contents). required o (NotLive version) >>= (λ t. moved_to dropping visit.file t visit.selection)) target.1)
      made (is target.0 live target.1)

  by-other : (visit : Visit) → find (has_number session) own.sessions ≡ Some visit → (made : Option Rebased) (same : Bool) → (version == visit.version) ≡ same
      → ((file : Contents) → is_live state version ≡ true → file_of state version ≡ Some file → IsMade same visit version file dropping made)
      → Rebases (cond same (stays_at session visit.version SameVersion) (cond (not (is_live state version)) (stays_at session visit.version (NotLive version)) (given_made session visit.version made)))
  by-other visit e made true test is =
      refuses visit.version SameVersion (ap (of-found state version dropping) (there (Some visit) e) ∙ ap (of-other state version dropping (owned_by own.number visit)) test) (ap version-told (sym (there (Some visit) e)))
  by-other visit e made false test is =
      by-live visit e (ap (of-found state version dropping) (there (Some visit) e) ∙ ap (of-other state version dropping (owned_by own.number visit)) test) made is (is_live state version) refl

  by-found : (made : Option Rebased) (found : Option Visit) → find (has_number session) own.sessions ≡ found → ((file : Contents) → is_live state version ≡ true → file_of state version ≡ Some file → IsPrepared found version file dropping made)
      → Rebases (rebase_given session version (is_live state version) made found)
  by-found made None e is = refuses 0 NoSession (ap (of-found state version dropping) (there None e)) (ap version-told (sym (there None e)))
  by-found made (Some visit) e is = by-other visit e made (version == visit.version) refl is

  pub rebases : (made : Option Rebased) → IsMadeAt state own session version dropping made → Rebases (rebase_given session version (is_live state version) made (find (has_number session) own.sessions))
  rebases made is = by-found made (find (has_number session) own.sessions) refl is

-- ---- what it brings

-- the shelves after a session left a version for another, or none did
abbrev pub moved-shelves : ℕ → Option ℕ → List Shelf → List Shelf
moved-shelves version None shelves = shelves
moved-shelves version (Some left) shelves = map (repinned (λ number pins. pins + one_at version number)) (map (repinned (λ number pins. pins - one_at left number)) shelves)

module _ (state : State) (own : OwnPart) (shelves : List Shelf) (entered present now session version : ℕ) (dropping : Bool) (seen : IsSeen state own (map shelved shelves) entered present now) where
  stays-brings : (answer : Reply) → answer ≡ reply own.number (Rebase session version dropping) state → after own.number (Rebase session version dropping) state ≡ state → Brings (Rebase session version dropping) state own own answer (map shelved shelves) entered present now
  stays-brings answer answers same = record {
    answer = answers;
    same_number = refl;
    same_pending = refl;
    there = ap (λ s. is_present s own.number) same ∙ seen.there;
    part = subst (λ s. IsPartOf s own) (sym same) seen.part;
    kept = subst (λ s. IsKeptOf s (map shelved shelves) entered present now) (sym same) seen.kept;
  }

  module _ (ready : Visit) (moves : Moves state own seen.part session version dropping ready) where
    abbrev later : State
    later = ready-state own.number session state ready

    abbrev left : ℕ
    left = visit_version ready.number own.sessions

    part-later : IsPartOf (ready-state own.number session state ready) (record { number = own.number; opened = own.opened; sessions = with_visit ready own.sessions; pending = own.pending })
    part-later = record {
      sessions =
          owned-changes own.number session (at_version ready.version ready.selection) (λ s. refl) state.sessions
          ∙ ap (change_first (is_session own.number session) (at_version ready.version ready.selection)) seen.part.sessions
          ∙ subst (λ n. change_first (is_session own.number n) (at_version ready.version ready.selection) (map (owned_by own.number) own.sessions) ≡ map (owned_by own.number) (with_visit ready own.sessions)) moves.number (ready-owned own.number ready own.sessions);
      files = kept-ready (λ v. file_of state v.version ≡ Some v.file) ready (ap (file_of state) moves.version_is ∙ moves.file) own.sessions seen.part.files;
      opened = seen.part.opened;
    }

    left-is : visit_version ready.number own.sessions ≡ moves.visit.version
    left-is = ap (λ (n : ℕ). visit_version n own.sessions) moves.number ∙ ap (λ (o : Option Visit). unwrap_or (option_map (λ (v : Visit). v.version) o) 0) moves.found

    counted : (v : ℕ) → (pins state v - one_at (visit_version ready.number own.sessions) v) + one_at version v ≡ pins (ready-state own.number session state ready) v
    counted v =
        let is = there state own seen.part session version dropping (Some moves.visit) moves.found in
        let changed = count-changed (λ s. s.version == v) (is_session own.number session) (at_version ready.version ready.selection) state.sessions (owned_by own.number moves.visit) is in
        let dropped = count-dropped (λ s. s.version == v) (is_session own.number session) state.sessions (owned_by own.number moves.visit) is in
        let was : cond {A = ℕ} (moves.visit.version == v) 1 0 ≡ one_at (visit_version ready.number own.sessions) v = same-test moves.visit.version v ∙ ap (λ (n : ℕ). one_at n v) (sym left-is) in
        let becomes : cond {A = ℕ} (ready.version == v) 1 0 ≡ one_at version v = same-test ready.version v ∙ ap (λ (n : ℕ). one_at n v) moves.version_is in
        omega (arith, changed, dropped, was, becomes)

    kept-later : IsKeptOf (ready-state own.number session state ready) (map shelved (moved-shelves version (Some (visit_version ready.number own.sessions)) shelves)) entered present now
    kept-later = record {
      shelves_are =
          shelves-repinned (λ number count. count + one_at version number) (map (repinned (λ number count. count - one_at (visit_version ready.number own.sessions) number)) shelves) (λ v. pins state v - one_at (visit_version ready.number own.sessions) v) 1 state.versions
          (shelves-repinned (λ number count. count - one_at (visit_version ready.number own.sessions) number) shelves (pins state) 1 state.versions seen.kept.shelves_are)
          ∙ shelves-agree (λ v. (pins state v - one_at (visit_version ready.number own.sessions) v) + one_at version v) (pins (ready-state own.number session state ready)) 1 (λ v past. counted v) state.versions;
      entered_are = seen.kept.entered_are;
      present_are = seen.kept.present_are;
      current_is = seen.kept.current_is;
    }

    moves-brings : (answer : Reply) → answer ≡ reply own.number (Rebase session version dropping) state → Brings (Rebase session version dropping) state own (record { number = own.number; opened = own.opened; sessions = with_visit ready own.sessions; pending = own.pending }) answer (map shelved (moved-shelves version (Some (visit_version ready.number own.sessions)) shelves)) entered present now
    moves-brings answer answers = record {
      answer = answers;
      same_number = refl;
      same_pending = refl;
      there = ap (λ s. is_present s own.number) moves.becomes ∙ seen.there;
      part = subst (λ s. IsPartOf s (record { number = own.number; opened = own.opened; sessions = with_visit ready own.sessions; pending = own.pending })) (sym moves.becomes) part-later;
      kept = subst (λ s. IsKeptOf s (map shelved (moved-shelves version (Some (visit_version ready.number own.sessions)) shelves)) entered present now) (sym moves.becomes) kept-later;
    }

  by-ready : (ready : Option Visit) → Becomes state own seen.part session version dropping ready → (answer : Reply) → answer ≡ reply own.number (Rebase session version dropping) state
      → Brings (Rebase session version dropping) state own (record { number = own.number; opened = own.opened; sessions = with_ready ready own.sessions; pending = own.pending }) answer (map shelved (moved-shelves version (option_map (λ v. visit_version v.number own.sessions) ready) shelves)) entered present now
  by-ready None becomes answer answers = stays-brings answer answers becomes
  by-ready (Some ready) becomes answer answers = moves-brings ready becomes answer answers

  -- by what was given
  pub rebase-brings : (made : Option Rebased) → IsMadeAt state own session version dropping made → (live : Bool) → live ≡ is_live state version
      → (answer : Reply) → answer ≡ (rebase_given session version live made (find (has_number session) own.sessions)).0
      → (own_later : OwnPart) → own_later ≡ record { number = own.number; opened = own.opened; sessions = with_ready (rebase_given session version live made (find (has_number session) own.sessions)).1 own.sessions; pending = own.pending }
      → (left : Option ℕ) → left ≡ option_map (λ v. visit_version v.number own.sessions) (rebase_given session version live made (find (has_number session) own.sessions)).1
      → (shelves_later : List Shelf) → shelves_later ≡ moved-shelves version left shelves
      → Brings (Rebase session version dropping) state own own_later answer (map shelved shelves_later) entered present now
  rebase-brings made is live live_is answer answers own_later part_is left left_is shelves_later shelves_are =
      let given : Reply × Option Visit = rebase_given session version (is_live state version) made (find (has_number session) own.sessions) in
      let same : rebase_given session version live made (find (has_number session) own.sessions) ≡ given = ap (λ (l : Bool). rebase_given session version l made (find (has_number session) own.sessions)) live_is in
      let made_so = rebases state own seen.part session version dropping made is in
      let part_so : own_later ≡ record { number = own.number; opened = own.opened; sessions = with_ready given.1 own.sessions; pending = own.pending } =
      part_is ∙ ap (λ (g : Reply × Option Visit). record { number = own.number; opened = own.opened; sessions = with_ready g.1 own.sessions; pending = own.pending }) same in
      let shelves_so : shelves_later ≡ moved-shelves version (option_map (λ (v : Visit). visit_version v.number own.sessions) given.1) shelves =
      shelves_are ∙ ap (λ (l : Option ℕ). moved-shelves version l shelves) (left_is ∙ ap (λ (g : Reply × Option Visit). option_map (λ (v : Visit). visit_version v.number own.sessions) g.1) same) in
      subst (λ (ss : List Shelf). Brings (Rebase session version dropping) state own own_later answer (map shelved ss) entered present now) (sym shelves_so)
      (subst (λ (o : OwnPart). Brings (Rebase session version dropping) state own o answer (map shelved (moved-shelves version (option_map (λ (v : Visit). visit_version v.number own.sessions) given.1) shelves)) entered present now) (sym part_so)
      (by-ready given.1 made_so.becomes answer (answers ∙ ap (λ (g : Reply × Option Visit). g.0) same ∙ made_so.answer)))

-- ---- for the answers

-- pins that were few are few where some go
pub fewer-pins : (less : ℕ → ℕ) (shelves : List Shelf) → All (λ (shelf : Shelf). shelf.pins < 2 ^ 63) shelves → All (λ (shelf : Shelf). shelf.pins < 2 ^ 63) (map (repinned (λ number count. count - less number)) shelves)
fewer-pins less shelves few =
    All-map (λ (shelf : Shelf). shelf.pins < 2 ^ 63) (repinned (λ number count. count - less number)) shelves
    (All-weaker (λ (shelf : Shelf). shelf.pins < 2 ^ 63) (λ (shelf : Shelf). shelf.pins - less shelf.number < 2 ^ 63) (λ shelf small. omega (arith, small)) shelves few)

closed-version : (number : ℕ) (found : Option Visit) → (close_reply number found).head.version ≡ unwrap_or (option_map (λ (v : Visit). v.version) found) 0
closed-version number None = refl
closed-version number (Some visit) = refl

-- the version of each of a caller's sessions has a pin
pub enough-left : (blocks : List (List Entry)) (own : OwnPart) → StandsAfter (history_of blocks) own → (shelves : List Shelf) (entered present now : ℕ) → IsBook blocks (map shelved shelves) entered present now → (number : ℕ) → All (λ (shelf : Shelf). one_at (visit_version number own.sessions) shelf.number ≤ shelf.pins) shelves
enough-left blocks own stands shelves entered present now book number =
    subst (λ (version : ℕ). All (λ (shelf : Shelf). one_at version shelf.number ≤ shelf.pins) shelves) (closed-version number (find (has_number number) own.sessions)) (enough-closed blocks own stands number shelves entered present now book)

-- the entry of a call, with the head of its reply whole
pub moved-journal : (blocks : List (List Entry)) (own between : OwnPart) (session version : ℕ) (dropping : Bool) (answer : Reply) (noted : Head) (later : List (List Entry)) → answer ≡ reply own.number (Rebase session version dropping) (state_with (history_of blocks) own) → between.number ≡ own.number → between.pending ≡ own.pending → noted ≡ answer.head
    → later ≡ blocks ++ (between.pending ++ record { caller = between.number; call = Rebase session version dropping; head = noted } ∷ []) ∷ [] → later ≡ with_entry blocks own (Rebase session version dropping)
moved-journal blocks own between session version dropping answer noted later answers number pending same is =
    is
    ∙ ap (λ (es : List Entry). blocks ++ (es ++ record { caller = between.number; call = Rebase session version dropping; head = noted } ∷ []) ∷ []) pending
    ∙ ap (λ (n : ℕ). blocks ++ (own.pending ++ record { caller = n; call = Rebase session version dropping; head = noted } ∷ []) ∷ []) number
    ∙ ap (λ (h : Head). blocks ++ (own.pending ++ record { caller = own.number; call = Rebase session version dropping; head = h } ∷ []) ∷ []) (same ∙ ap (λ (r : Reply). r.head) answers)
