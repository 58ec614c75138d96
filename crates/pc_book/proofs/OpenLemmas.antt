-- A session is opened at the current version.
use Rattle.std.proofs.Common.{◌≡◌, ℕ, zero, suc, ◌+◌, ◌-◌, ◌<◌, ◌≤◌, ◌==◌, nat_le, Bool, true, false, not, cond, List, [], ◌∷◌, ◌++◌, length, map, filter, find, count_by, slice_get, Option, Some, None, Ok, option_map, All, refl, sym, subst, ap, ◌∙◌, arith}
use Rattle.std.specs.Prelude.{option_and_then, unwrap_or}
use Rattle.std.proofs.lemmas.Bool.Decides.{nat_tests}
use Rattle.std.proofs.lemmas.List.{map-append}
use Rattle.std.proofs.lemmas.List.Elements.{All-head, All-tail, All-nil, All-cons, All-append, filter-append}
use Rattle.std.proofs.lemmas.List.Sums.{sum_by-cons}
use Rattle.pc_file.specs.Contents.{Contents}
use Rattle.pc_calls.specs.declared.call.Call.TheVariants.{Open}
use Rattle.pc_calls.specs.declared.outcome.Outcome.TheVariants.{Done, NoVersion, SessionsFull}
use Rattle.pc_calls.specs.declared.reply.Reply.{Reply}
use Rattle.pc_calls.specs.Decision.{◌>>◌, refused_where}
use Rattle.pc_calls.specs.Heads.{reply}
use Rattle.pc_calls.specs.History.{is_present}
use Rattle.pc_calls.specs.OwnedSessions.{sessions_of}
use Rattle.pc_calls.specs.Selection.{free, shown}
use Rattle.pc_calls.specs.State.{Caller, OpenSession, State, current, file_of, is_owned, is_session, open_sessions, opened_by, pins, session_of}
use Rattle.pc_calls.specs.Step.{after, change_numbered, state_of, step, with_opened}
use Rattle.pc_calls.proofs.StepLaws.{change-reads, length-change, opened_counts}
use Rattle.pc_session.specs.Visit.{Visit}
use Rattle.pc_book.specs.Book.{IsKeptOf}
use Rattle.pc_book.specs.Own.{IsPartOf, OwnPart, owned_by}
use Rattle.pc_book.specs.Sharing.{Brings, IsSeen, with_visit}
use Rattle.pc_book.specs.Shelves.{Shelved, one_at, repinned, shelved}
use Rattle.pc_book.specs.Visits.{has_number, plain_head}
use Rattle.pc_book.specs.declared.shelf.Shelf.{Shelf}
use Rattle.pc_book.proofs.BookLemmas.{shelves-agree, shelves-repinned}
use Rattle.pc_book.proofs.OwnLemmas.{find-own}
use Rattle.pc_book.proofs.SharingLemmas.{IsLast, last_of, last-at, last-map, last-shelf, open-count, refused-brings, reply_of}
use Rattle.pc_book.proofs.VisitLemmas.{find-owned}

-- ---- one session more

turn : (a b : ℕ) → (a == b) ≡ (b == a)
turn a b = by (a == b) refl
  where
    by : (same : Bool) → (a == b) ≡ same → same ≡ (b == a)
    by true e = let other : (b == a) ≡ true = grind (arith, nat_tests, e) in sym other
    by false e = let other : (b == a) ≡ false = grind (arith, nat_tests, e) in sym other

-- at each version that it is at there is one session more
counts-push : (sessions : List OpenSession) (new : OpenSession) (version : ℕ) → count_by (λ (s : OpenSession). s.version == version) (sessions ++ new ∷ []) ≡ count_by (λ (s : OpenSession). s.version == version) sessions + one_at new.version version
counts-push [] new version =
    let turned : (new.version == version) ≡ (version == new.version) = turn new.version version in
    sum_by-cons (λ (s : OpenSession). cond (s.version == version) 1 0) new [] ∙ ap (λ b. cond b 1 0 + 0) turned ∙ omega arith
counts-push (s ∷ sessions) new version =
    let counted = sum_by-cons (λ (t : OpenSession). cond (t.version == version) 1 0) s (sessions ++ new ∷ []) in
    let before = sum_by-cons (λ (t : OpenSession). cond (t.version == version) 1 0) s sessions in
    omega (arith, counted, before, counts-push sessions new version)

-- as many callers are present after an open as before
present-same : (callers : List Caller) (caller : ℕ) → count_by (λ (c : Caller). not c.left) (change_numbered with_opened callers caller) ≡ count_by (λ (c : Caller). not c.left) callers
present-same [] caller = refl
present-same (c ∷ callers) zero = refl
present-same (c ∷ callers) (suc zero) = sum_by-cons (λ (d : Caller). cond (not d.left) 1 0) (with_opened c) callers ∙ sym (sum_by-cons (λ (d : Caller). cond (not d.left) 1 0) c callers)
present-same (c ∷ callers) (suc (suc place)) =
    sum_by-cons (λ (d : Caller). cond (not d.left) 1 0) c (change_numbered with_opened callers (suc place))
    ∙ ap (λ n. cond (not c.left) 1 0 + n) (present-same callers (suc place))
    ∙ sym (sum_by-cons (λ (d : Caller). cond (not d.left) 1 0) c callers)

-- a session with a number of its own is found where it comes last
find-last : (number : ℕ) (visits : List Visit) (new : Visit) → All (λ v. (v.number == number) ≡ false) visits → (new.number == number) ≡ true → find (has_number number) (visits ++ new ∷ []) ≡ Some new
find-last number [] new others is = ap (λ (b : Bool). cond b (Some new) None) is
find-last number (visit ∷ visits) new others is =
    ap (λ (b : Bool). cond b (Some visit) (find (has_number number) (visits ++ new ∷ []))) (All-head (λ (v : Visit). (v.number == number) ≡ false) visit visits others)
    ∙ find-last number visits new (All-tail (λ (v : Visit). (v.number == number) ≡ false) visit visits others) is

-- the numbers of a part's sessions are those of the state's
other-numbers : (owner number : ℕ) (visits : List Visit) → All (λ (s : OpenSession). (s.number == number) ≡ false) (map (owned_by owner) visits) → All (λ (v : Visit). (v.number == number) ≡ false) visits
other-numbers owner number [] all = All-nil (λ (v : Visit). (v.number == number) ≡ false)
other-numbers owner number (visit ∷ visits) all =
    All-cons (λ (v : Visit). (v.number == number) ≡ false) visit visits (All-head (λ (s : OpenSession). (s.number == number) ≡ false) (owned_by owner visit) (map (owned_by owner) visits) all)
    (other-numbers owner number visits (All-tail (λ (s : OpenSession). (s.number == number) ≡ false) (owned_by owner visit) (map (owned_by owner) visits) all))

owned-numbers : (owner : ℕ) (opened_of : ℕ → ℕ) (sessions : List OpenSession) → All (λ (s : OpenSession). s.number ≤ opened_of s.owner) sessions → All (λ (s : OpenSession). (s.number == opened_of owner + 1) ≡ false) (filter (is_owned owner) sessions)
owned-numbers owner opened_of [] low = All-nil (λ (s : OpenSession). (s.number == opened_of owner + 1) ≡ false)
owned-numbers owner opened_of (s ∷ sessions) low = by (is_owned owner s) refl (owned-numbers owner opened_of sessions (All-tail (λ (t : OpenSession). t.number ≤ opened_of t.owner) s sessions low))
  where
    by : (b : Bool) → is_owned owner s ≡ b → All (λ (t : OpenSession). (t.number == opened_of owner + 1) ≡ false) (filter (is_owned owner) sessions) → All (λ (t : OpenSession). (t.number == opened_of owner + 1) ≡ false) (cond b (s ∷ filter (is_owned owner) sessions) (filter (is_owned owner) sessions))
    by true e rest =
        let same : s.owner ≡ owner = grind (arith, nat_tests, e) in
        let most : s.number ≤ opened_of owner = subst (λ o. s.number ≤ opened_of o) same (All-head (λ (t : OpenSession). t.number ≤ opened_of t.owner) s sessions low) in
        All-cons (λ (t : OpenSession). (t.number == opened_of owner + 1) ≡ false) s (filter (is_owned owner) sessions) (grind (arith, nat_tests, most)) rest
    by false e rest = rest

-- ---- the three ends of an open

abbrev new_session : State → ℕ → OpenSession
new_session state caller = record { owner = caller; number = opened_by state caller + 1; version = current state; selection = free }

abbrev opened_state : State → ℕ → State
opened_state state caller = record { versions = state.versions; callers = change_numbered with_opened state.callers caller; sessions = state.sessions ++ new_session state caller ∷ [] }

module _ (state : State) (own : OwnPart) (shelves : List Shelf) (entered present now : ℕ) (seen : IsSeen state own (map shelved shelves) entered present now) where
  last-told : IsLast state (option_map shelved (last_of shelves))
  last-told = subst (IsLast state) (ap (last_of {A = Shelved}) (sym seen.kept.shelves_are) ∙ last-map shelved shelves) (last-shelf state seen.sound)

  -- before anything was published
  pub open-early : (answer : Reply) → slice_get shelves (length shelves - 1) ≡ None → answer ≡ record { head = plain_head 0 0 NoVersion; shown = None } → Brings Open state own own answer (map shelved shelves) entered present now
  open-early answer none is =
      let zero_now : (current state == 0) ≡ true = last-told.none (ap (option_map shelved) (sym (last-at shelves) ∙ none)) in
      refused-brings state own (map shelved shelves) entered present now seen Open NoVersion answer
      (ap (λ (b : Bool). refused_where b NoVersion >> (refused_where (nat_le 64 (open_sessions state own.number)) SessionsFull >> Ok (opened_state state own.number))) zero_now) is

  -- with as many open sessions as may be
  pub open-full : (answer : Reply) (shelf : Shelf) → slice_get shelves (length shelves - 1) ≡ Some shelf → 64 ≤ length own.sessions → answer ≡ record { head = plain_head 0 0 SessionsFull; shown = None } → Brings Open state own own answer (map shelved shelves) entered present now
  open-full answer shelf there full is =
      let some_now : (current state == 0) ≡ false = (last-told.some (shelved shelf) (ap (option_map shelved) (sym (last-at shelves) ∙ there))).0 in
      let count = open-count state own (map shelved shelves) entered present now seen in
      let many : nat_le 64 (open_sessions state own.number) ≡ true = grind (arith, nat_tests, count, full) in
      refused-brings state own (map shelved shelves) entered present now seen Open SessionsFull answer
      (ap (λ (b : Bool). refused_where b NoVersion >> (refused_where (nat_le 64 (open_sessions state own.number)) SessionsFull >> Ok (opened_state state own.number))) some_now
      ∙ ap (λ (b : Bool). refused_where b SessionsFull >> Ok (opened_state state own.number)) many) is

  module _ (shelf : Shelf) (there : slice_get shelves (length shelves - 1) ≡ Some shelf) (few : length own.sessions < 64) where
    later : State
    later = opened_state state own.number

    visit : Visit
    visit = record { number = own.opened + 1; version = shelf.number; file = shelf.version.file; selection = free }

    told : ((current state == 0) ≡ false) × (shelf.number ≡ current state) × (file_of state (current state) ≡ Some shelf.version.file)
    told = last-told.some (shelved shelf) (ap (option_map shelved) (sym (last-at shelves) ∙ there))

    gives : step own.number Open state ≡ Ok (opened_state state own.number)
    gives =
        let count = open-count state own (map shelved shelves) entered present now seen in
        let room : nat_le 64 (open_sessions state own.number) ≡ false = grind (arith, nat_tests, count, few) in
        ap (λ (b : Bool). refused_where b NoVersion >> (refused_where (nat_le 64 (open_sessions state own.number)) SessionsFull >> Ok (opened_state state own.number))) told.0
        ∙ ap (λ (b : Bool). refused_where b SessionsFull >> Ok (opened_state state own.number)) room

    becomes : after own.number Open state ≡ opened_state state own.number
    becomes = ap (state_of state) gives

    same-session : new_session state own.number ≡ owned_by own.number (record { number = own.opened + 1; version = shelf.number; file = shelf.version.file; selection = free })
    same-session =
        ap (λ (n : ℕ). record { owner = own.number; number = n + 1; version = current state; selection = free }) seen.part.opened
        ∙ ap (λ (v : ℕ). record { owner = own.number; number = own.opened + 1; version = v; selection = free }) (sym told.1)

    self-same : (n : ℕ) → (n == n) ≡ true
    self-same n = grind (arith, nat_tests)

    sessions-later : sessions_of (opened_state state own.number) own.number ≡ map (owned_by own.number) (with_visit shelf.number shelf.version.file own).sessions
    sessions-later =
        filter-append (is_owned own.number) state.sessions (new_session state own.number ∷ [])
        ∙ ap (λ (b : Bool). filter (is_owned own.number) state.sessions ++ cond b (new_session state own.number ∷ []) []) (self-same own.number)
        ∙ ap (λ (ss : List OpenSession). ss ++ new_session state own.number ∷ []) seen.part.sessions
        ∙ ap (λ (s : OpenSession). map (owned_by own.number) own.sessions ++ s ∷ []) same-session
        ∙ sym (map-append (owned_by own.number) own.sessions (record { number = own.opened + 1; version = shelf.number; file = shelf.version.file; selection = free } ∷ []))

    counted : opened_by (opened_state state own.number) own.number ≡ own.opened + 1
    counted = opened_counts state own.number seen.there ∙ ap (λ (n : ℕ). n + 1) seen.part.opened

    file-told : file_of state shelf.number ≡ Some shelf.version.file
    file-told = ap (file_of state) told.1 ∙ told.2

    part-later : IsPartOf (opened_state state own.number) (with_visit shelf.number shelf.version.file own)
    part-later = record {
      sessions = sessions-later;
      files = All-append (λ (v : Visit). file_of state v.version ≡ Some v.file) own.sessions _ seen.part.files (All-cons (λ (v : Visit). file_of state v.version ≡ Some v.file) _ [] file-told (All-nil (λ (v : Visit). file_of state v.version ≡ Some v.file)));
      opened = counted;
    }

    there-later : is_present (opened_state state own.number) own.number ≡ true
    there-later = ap (λ (o : Option Bool). unwrap_or o false) (change-reads (λ (c : Caller). not c.left) with_opened (λ c. refl) state.callers own.number own.number) ∙ seen.there

    kept-later : IsKeptOf (opened_state state own.number) (map shelved (map (repinned (λ number pins. pins + one_at shelf.number number)) shelves)) entered present now
    kept-later = record {
      shelves_are =
          shelves-repinned (λ number pins. pins + one_at shelf.number number) shelves (pins state) 1 state.versions seen.kept.shelves_are
          ∙ shelves-agree (λ version. pins state version + one_at shelf.number version) (pins (opened_state state own.number)) 1
          (λ version past. ap (λ (v : ℕ). pins state version + one_at v version) told.1 ∙ sym (counts-push state.sessions (new_session state own.number) version)) state.versions;
      entered_are = seen.kept.entered_are ∙ sym (length-change with_opened state.callers own.number);
      present_are = seen.kept.present_are ∙ sym (present-same state.callers own.number);
      current_is = seen.kept.current_is;
    }

    found : session_of (opened_state state own.number) own.number (own.opened + 1) ≡ Some (owned_by own.number (record { number = own.opened + 1; version = shelf.number; file = shelf.version.file; selection = free }))
    found =
        let others : All (λ (s : OpenSession). (s.number == own.opened + 1) ≡ false) (map (owned_by own.number) own.sessions) =
        subst (All (λ (s : OpenSession). (s.number == own.opened + 1) ≡ false)) seen.part.sessions (subst (λ n. All (λ (s : OpenSession). (s.number == n + 1) ≡ false) (sessions_of state own.number)) seen.part.opened (owned-numbers own.number (opened_by state) state.sessions seen.sound.numbers)) in
        find-own own.number (own.opened + 1) (opened_state state own.number).sessions
        ∙ ap (find (is_session own.number (own.opened + 1))) sessions-later
        ∙ find-owned own.number (own.opened + 1) (with_visit shelf.number shelf.version.file own).sessions
        ∙ ap (option_map (owned_by own.number)) (find-last (own.opened + 1) own.sessions _ (other-numbers own.number (own.opened + 1) own.sessions others) (self-same (own.opened + 1)))

    reply-later : reply own.number Open state ≡ record { head = plain_head (own.opened + 1) shelf.number Done; shown = Some (record { file = shelf.version.file; listing = shown shelf.version.file free }) }
    reply-later =
        let after_open : State = opened_state state own.number in
        ap (reply_of own.number Open state) gives
        ∙ ap (λ (n : ℕ). record {
          head = plain_head n (unwrap_or (option_map (λ (s : OpenSession). s.version) (session_of (opened_state state own.number) own.number n)) 0) Done;
          shown = option_and_then (λ (s : OpenSession). option_map (λ f. record { file = f; listing = shown f s.selection }) (file_of state s.version)) (session_of (opened_state state own.number) own.number n);
        }) counted
        ∙ ap (λ (o : Option OpenSession). record {
          head = plain_head (own.opened + 1) (unwrap_or (option_map (λ (s : OpenSession). s.version) o) 0) Done;
          shown = option_and_then (λ (s : OpenSession). option_map (λ f. record { file = f; listing = shown f s.selection }) (file_of state s.version)) o;
        }) found
        ∙ ap (λ (o : Option Contents). record { head = plain_head (own.opened + 1) shelf.number Done; shown = option_map (λ f. record { file = f; listing = shown f free }) o }) file-told

    -- a session at the last shelf
    pub open-done : (answer : Reply) (own_later : OwnPart) (shelves_later : List Shelf)
        → answer ≡ record { head = plain_head (own.opened + 1) shelf.number Done; shown = Some (record { file = shelf.version.file; listing = shown shelf.version.file free }) }
        → own_later ≡ with_visit shelf.number shelf.version.file own → shelves_later ≡ map (repinned (λ number pins. pins + one_at shelf.number number)) shelves
        → Brings Open state own own_later answer (map shelved shelves_later) entered present now
    open-done answer own_later shelves_later is part_is shelves_are = record {
      answer = is ∙ sym reply-later;
      same_number = ap (λ (o : OwnPart). o.number) part_is;
      same_pending = ap (λ (o : OwnPart). o.pending) part_is;
      there = ap (λ s. is_present s own.number) becomes ∙ there-later;
      part = subst (λ s. IsPartOf s own_later) (sym becomes) (subst (IsPartOf (opened_state state own.number)) (sym part_is) part-later);
      kept = subst (λ s. IsKeptOf s (map shelved shelves_later) entered present now) (sym becomes)
          (subst (λ (ss : List Shelf). IsKeptOf (opened_state state own.number) (map shelved ss) entered present now) (sym shelves_are) kept-later);
    }
