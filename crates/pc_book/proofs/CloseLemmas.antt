-- A caller closes a session.
use Rattle.std.proofs.Common.{◌≡◌, ℕ, ◌+◌, ◌-◌, ◌≤◌, ◌==◌, Bool, true, false, not, ◌&&◌, cond, List, [], ◌∷◌, length, map, filter, find, count_by, Option, Some, None, option_map, All, Ok, Err, refl, sym, subst, ap, ◌∙◌, arith}
use Rattle.std.specs.Prelude.{unwrap_or}
use Rattle.std.proofs.lemmas.Bool.Decides.{nat_tests}
use Rattle.pc_calls.specs.declared.call.Call.TheVariants.{Close}
use Rattle.pc_calls.specs.declared.entry.Entry.{Entry}
use Rattle.pc_calls.specs.declared.outcome.Outcome.TheVariants.{Done, NoSession}
use Rattle.pc_calls.specs.declared.reply.Reply.{Reply}
use Rattle.pc_calls.specs.Decision.{Decision, ◌>>=◌, required}
use Rattle.pc_calls.specs.Heads.{head_by, reply, shown_by}
use Rattle.pc_calls.specs.History.{is_present}
use Rattle.pc_calls.specs.State.{OpenSession, State, file_of, is_owned, is_session, pins, session_of}
use Rattle.pc_calls.specs.Step.{after, drop_first, state_of, step}
use Rattle.pc_session.specs.Visit.{Visit}
use Rattle.pc_book.specs.declared.shelf.Shelf.{Shelf}
use Rattle.pc_book.specs.Book.{IsBook, IsKeptOf, Shares, history_of, with_entry}
use Rattle.pc_book.specs.Own.{IsPartOf, OwnPart, StandsAfter, owned_by, state_with}
use Rattle.pc_book.specs.Shelves.{one_at, repinned, shelved, shelves_from}
use Rattle.pc_book.specs.Visits.{close_reply, has_number, plain_head, without_number}
use Rattle.pc_book.proofs.BookLemmas.{kept-with, part-sealed, shares, shelves-agree, shelves-have, shelves-repinned}
use Rattle.pc_book.proofs.LeaveLemmas.{count-dropped}
use Rattle.pc_book.proofs.OwnLemmas.{find-own}
use Rattle.pc_book.proofs.VisitLemmas.{find-owned, kept_without, self-same}

-- ---- the caller's sessions with one less

drop-owned : (owner number : ℕ) (visits : List Visit) → drop_first (is_session owner number) (map (owned_by owner) visits) ≡ map (owned_by owner) (without_number number visits)
drop-owned owner number [] = refl
drop-owned owner number (visit ∷ visits) =
    ap (λ b. cond (b && (visit.number == number)) (map (owned_by owner) visits) (owned_by owner visit ∷ drop_first (is_session owner number) (map (owned_by owner) visits))) (self-same owner)
    ∙ elim (visit.number == number) as (λ b. cond b (map (owned_by owner) visits) (owned_by owner visit ∷ drop_first (is_session owner number) (map (owned_by owner) visits)) ≡ map (owned_by owner) (cond b visits (visit ∷ without_number number visits)))
    [ true ↦ refl | false ↦ ap (λ ss. owned_by owner visit ∷ ss) (drop-owned owner number visits) ]

-- dropped of all sessions, or of the owner's alone
module _ (owner number : ℕ) where
  drops-own : (s : OpenSession) (sessions : List OpenSession) → is_owned owner s ≡ true
      → filter (is_owned owner) (drop_first (is_session owner number) sessions) ≡ drop_first (is_session owner number) (filter (is_owned owner) sessions)
      → filter (is_owned owner) (drop_first (is_session owner number) (s ∷ sessions)) ≡ drop_first (is_session owner number) (s ∷ filter (is_owned owner) sessions)
  drops-own s sessions own rest =
      elim (is_session owner number s) as (λ b. filter (is_owned owner) (cond b sessions (s ∷ drop_first (is_session owner number) sessions)) ≡ cond b (filter (is_owned owner) sessions) (s ∷ drop_first (is_session owner number) (filter (is_owned owner) sessions))) [
        | true ↦ refl
        | false ↦ ap (λ b. cond b (s ∷ filter (is_owned owner) (drop_first (is_session owner number) sessions)) (filter (is_owned owner) (drop_first (is_session owner number) sessions))) own ∙ ap (λ ss. s ∷ ss) rest
      ]

  owned-drops : (sessions : List OpenSession) → filter (is_owned owner) (drop_first (is_session owner number) sessions) ≡ drop_first (is_session owner number) (filter (is_owned owner) sessions)
  owned-drops [] = refl
  owned-drops (s ∷ sessions) =
      elim (is_owned owner s) as (λ b. is_owned owner s ≡ b → filter (is_owned owner) (drop_first (is_session owner number) (s ∷ sessions)) ≡ drop_first (is_session owner number) (cond b (s ∷ filter (is_owned owner) sessions) (filter (is_owned owner) sessions))) [
        | true ↦ (λ e. drops-own s sessions e (owned-drops sessions))
        | false ↦ (λ e.
            ap (λ b. filter (is_owned owner) (cond (b && (s.number == number)) sessions (s ∷ drop_first (is_session owner number) sessions))) e
            ∙ ap (λ b. cond b (s ∷ filter (is_owned owner) (drop_first (is_session owner number) sessions)) (filter (is_owned owner) (drop_first (is_session owner number) sessions))) e
            ∙ owned-drops sessions)
      ] refl

none-without : (number : ℕ) (visits : List Visit) → find (has_number number) visits ≡ None → without_number number visits ≡ visits
none-without number [] none = refl
none-without number (visit ∷ visits) none =
    (elim (visit.number == number) as (λ b. cond b (Some visit) (find (has_number number) visits) ≡ None → cond b visits (visit ∷ without_number number visits) ≡ visit ∷ visits) [
      | true ↦ (λ e. absurd cc)
      | false ↦ (λ e. ap (λ vs. visit ∷ vs) (none-without number visits e))
    ]) none

pub same-test : (one other : ℕ) → cond {A = ℕ} (one == other) 1 0 ≡ one_at one other
same-test one other =
    let turned : (one == other) ≡ (other == one) = by (other == one) refl in
    ap (λ b. cond {A = ℕ} b 1 0) turned
  where
    by : (b : Bool) → (other == one) ≡ b → (one == other) ≡ (other == one)
    by true e = grind (arith, nat_tests, e)
    by false e = grind (arith, nat_tests, e)

-- ---- the close, by the part and by the state

module _ (state : State) (own : OwnPart) (part : IsPartOf state own) (session : ℕ) where
  abbrev later : State
  later = after own.number (Close session) state

  pub record Closes (found : Option Visit) : Type 0 where
    pub answer : close_reply session found ≡ reply own.number (Close session) state
    pub kept : IsPartOf (after own.number (Close session) state) (record { number = own.number; opened = own.opened; sessions = without_number session own.sessions; pending = own.pending })
    pub callers : (after own.number (Close session) state).callers ≡ state.callers
    pub versions : (after own.number (Close session) state).versions ≡ state.versions
    pub pinned : (version : ℕ) → 1 ≤ version → pins state version ≡ pins (after own.number (Close session) state) version + one_at (close_reply session found).head.version version

  there : (found : Option Visit) → find (has_number session) own.sessions ≡ found → session_of state own.number session ≡ option_map (owned_by own.number) found
  there found e =
      find-own own.number session state.sessions ∙ ap (find (is_session own.number session)) part.sessions ∙ find-owned own.number session own.sessions ∙ ap (option_map (owned_by own.number)) e

  abbrev closed : State
  closed = record { versions = state.versions; callers = state.callers; sessions = drop_first (is_session own.number session) state.sessions }

  abbrev reply-by : Decision State → Reply
  reply-by result = record { head = head_by own.number (Close session) state result; shown = shown_by own.number (Close session) result }

  closes-at : (found : Option Visit) → find (has_number session) own.sessions ≡ found → Closes found
  closes-at None e =
      let gives : step own.number (Close session) state ≡ Err NoSession = ap (λ o. required o NoSession >>= (λ (s : OpenSession). Ok closed)) (there None e) in
      let is : later ≡ state = ap (state_of state) gives in
      record {
        answer = ap (λ o. record { head = plain_head session (unwrap_or (option_map (λ (s : OpenSession). s.version) o) 0) NoSession; shown = None }) (sym (there None e)) ∙ ap reply-by (sym gives);
        kept = subst (λ s. IsPartOf s (record { number = own.number; opened = own.opened; sessions = without_number session own.sessions; pending = own.pending })) (sym is)
            (subst (λ vs. IsPartOf state (record { number = own.number; opened = own.opened; sessions = vs; pending = own.pending })) (sym (none-without session own.sessions e)) (record { sessions = part.sessions; files = part.files; opened = part.opened }));
        callers = ap (λ (s : State). s.callers) is;
        versions = ap (λ (s : State). s.versions) is;
        pinned = λ version past.
            let none : (version == 0) ≡ false = grind (arith, nat_tests, past) in
            let zero_at : one_at 0 version ≡ 0 = ap (λ b. cond {A = ℕ} b 1 0) none in
            let same : pins later version ≡ pins state version = ap (λ s. pins s version) is in
            omega (arith, zero_at, same);
      }
  closes-at (Some visit) e =
      let gives : step own.number (Close session) state ≡ Ok closed = ap (λ o. required o NoSession >>= (λ (s : OpenSession). Ok closed)) (there (Some visit) e) in
      let is : later ≡ closed = ap (state_of state) gives in
      record {
        answer = ap (λ o. record { head = plain_head session (unwrap_or (option_map (λ (s : OpenSession). s.version) o) 0) Done; shown = None }) (sym (there (Some visit) e)) ∙ ap reply-by (sym gives);
        kept = subst (λ s. IsPartOf s (record { number = own.number; opened = own.opened; sessions = without_number session own.sessions; pending = own.pending })) (sym is) (record {
          sessions = owned-drops own.number session state.sessions ∙ ap (drop_first (is_session own.number session)) part.sessions ∙ drop-owned own.number session own.sessions;
          files = kept_without (λ v. file_of state v.version ≡ Some v.file) session own.sessions part.files;
          opened = part.opened;
        });
        callers = ap (λ (s : State). s.callers) is;
        versions = ap (λ (s : State). s.versions) is;
        pinned = λ version past.
            let counted = count-dropped (λ s. s.version == version) (is_session own.number session) state.sessions (owned_by own.number visit) (there (Some visit) e) in
            let turned : cond {A = ℕ} (visit.version == version) 1 0 ≡ one_at visit.version version = same-test visit.version version in
            let same : pins later version ≡ pins closed version = ap (λ s. pins s version) is in
            omega (arith, counted, turned, same);
      }

  pub closes : Closes (find (has_number session) own.sessions)
  closes = closes-at (find (has_number session) own.sessions) refl

module _ (blocks : List (List Entry)) (own : OwnPart) (stands : StandsAfter (history_of blocks) own) (session : ℕ) (shelves : List Shelf) (entered present now : ℕ) (book : IsBook blocks (map shelved shelves) entered present now) where
  abbrev state : State
  state = state_with (history_of blocks) own

  abbrev told : ℕ
  told = (close_reply session (find (has_number session) own.sessions)).head.version

  closing : Closes (state_with (history_of blocks) own) own stands.part session (find (has_number session) own.sessions)
  closing = closes (state_with (history_of blocks) own) own stands.part session

  -- the shelves have the pin that goes
  pub enough-closed : All (λ (shelf : Shelf). one_at told shelf.number ≤ shelf.pins) shelves
  enough-closed =
      shelves-have (λ version count. one_at told version ≤ count) (pins state) 1 (λ version past. omega (arith, closing.pinned version past)) state.versions shelves (kept-with blocks own stands (map shelved shelves) entered present now book).shelves_are

  pub kept-closed : IsKeptOf state (map shelved shelves) entered present now → IsKeptOf (after own.number (Close session) state) (map shelved (map (repinned (λ number count. count - one_at told number)) shelves)) entered present now
  kept-closed kept = record {
    shelves_are =
        shelves-repinned (λ number count. count - one_at told number) shelves (pins state) 1 state.versions kept.shelves_are
        ∙ shelves-agree (λ version. pins state version - one_at told version) (pins (after own.number (Close session) state)) 1 (λ version past. omega (arith, closing.pinned version past)) state.versions
        ∙ ap (shelves_from (pins (after own.number (Close session) state)) 1) (sym closing.versions);
    entered_are = kept.entered_are ∙ ap length (sym closing.callers);
    present_are = kept.present_are ∙ ap (count_by (λ c. not c.left)) (sym closing.callers);
    current_is = kept.current_is ∙ ap length (sym closing.versions);
  }

  -- what the close comes to
  pub shares-closed : (later_own : OwnPart) (answer : Reply) → answer ≡ close_reply session (find (has_number session) own.sessions) → later_own ≡ record { number = own.number; opened = own.opened; sessions = without_number session own.sessions; pending = [] }
      → Shares (Close session) blocks (with_entry blocks own (Close session)) own later_own answer
  shares-closed later_own answer answers is =
      shares blocks own (Close session) stands later_own answer (answers ∙ closing.answer) (ap (λ (p : OwnPart). p.number) is) (ap (λ (p : OwnPart). p.pending) is)
      (ap (λ cs. is_present (record { versions = (after own.number (Close session) state).versions; callers = cs; sessions = (after own.number (Close session) state).sessions }) own.number) closing.callers ∙ stands.entered)
      (part-sealed (after own.number (Close session) state) (record { number = own.number; opened = own.opened; sessions = without_number session own.sessions; pending = own.pending }) later_own is closing.kept)
      stands.entered

  -- and its entry
  pub head-closed : (answer : Reply) → answer ≡ close_reply session (find (has_number session) own.sessions) → plain_head answer.head.session answer.head.version answer.head.outcome ≡ (reply own.number (Close session) state).head
  head-closed answer answers =
      ap (λ (r : Reply). plain_head r.head.session r.head.version r.head.outcome) answers ∙ plain (find (has_number session) own.sessions) ∙ ap (λ (r : Reply). r.head) closing.answer
    where
      plain : (found : Option Visit) → plain_head (close_reply session found).head.session (close_reply session found).head.version (close_reply session found).head.outcome ≡ (close_reply session found).head
      plain None = refl
      plain (Some visit) = refl
