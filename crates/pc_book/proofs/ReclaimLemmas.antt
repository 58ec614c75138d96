-- A caller reclaims a version.
use Rattle.std.proofs.Common.{◌≡◌, ℕ, ◌==◌, Bool, true, false, not, cond, List, [], ◌∷◌, ◌++◌, length, map, find, count_by, Option, Some, None, Ok, Err, option_map, refl, sym, subst, ap, ◌∙◌}
use Rattle.std.specs.Prelude.{unwrap_or}
use Rattle.pc_calls.specs.declared.call.Call.{Call}
use Rattle.pc_calls.specs.declared.call.Call.TheVariants as call
use Rattle.pc_calls.specs.declared.entry.Entry.{Entry}
use Rattle.pc_calls.specs.declared.head.Head.{Head}
use Rattle.pc_calls.specs.declared.outcome.Outcome.{Outcome}
use Rattle.pc_calls.specs.declared.outcome.Outcome.TheVariants.{Done, IsCurrent, NotLive, Pinned}
use Rattle.pc_calls.specs.declared.reply.Reply.{Reply}
use Rattle.pc_calls.specs.declared.reply.Shown.{Shown}
use Rattle.pc_calls.specs.Decision.{Decision, ◌>>◌, refused_where}
use Rattle.pc_calls.specs.Heads.{head, reply, shown_by}
use Rattle.pc_calls.specs.History.{is_present}
use Rattle.pc_calls.specs.OwnedSessions.{sessions_of}
use Rattle.pc_calls.specs.State.{State, Version, current, is_live, numbered, opened_by, pins}
use Rattle.pc_calls.specs.Step.{after, change_numbered, outcome_of, reclaim, retired, state_of, step}
use Rattle.pc_calls.proofs.StepLaws.{keeps_file, length-change}
use Rattle.pc_book.specs.Book.{IsBook, IsKeptOf, Shares, history_of, with_entry}
use Rattle.pc_book.specs.Own.{IsPartOf, OwnPart, StandsAfter, state_with}
use Rattle.pc_book.specs.Shelves.{holds, retire_told, shelved, shelves_after, shelves_of}
use Rattle.pc_book.specs.Visits.{plain_head}
use Rattle.pc_book.specs.declared.shelf.Shelf.{Shelf}
use Rattle.pc_book.proofs.BookLemmas.{book-shared, kept-alike, pending-alike, shares}
use Rattle.pc_book.proofs.ShelfPlaces.{HasShelf, has-shelf, none-live, shelf-found, shelf-without}

-- ---- what every call appends

pub appended-by : (blocks room items : List (List Entry)) (own : OwnPart) (said : Call) (block : List Entry) (entry : Entry) (told : Head) → items ≡ room ++ block ∷ [] → room ≡ blocks → block ≡ own.pending ++ entry ∷ []
    → entry ≡ record { caller = own.number; call = said; head = told } → told ≡ head own.number said (state_with (history_of blocks) own) → items ≡ with_entry blocks own said
appended-by blocks room items own said block entry told pushed roomy sealed noted heads =
    let entry_is = noted ∙ ap (λ (h : Head). record { caller = own.number; call = said; head = h }) heads in
    pushed ∙ ap (λ (bs : List (List Entry)). bs ++ block ∷ []) roomy ∙ ap (λ (b : List Entry). blocks ++ b ∷ []) (sealed ∙ ap (λ (e : Entry). own.pending ++ e ∷ []) entry_is)

-- ---- what a reclaim comes to

record Reclaims (version : ℕ) (state : State) (shelves : List Shelf) (result : Decision State) (told : Outcome) : Type 0 where
  pub outcome : outcome_of result ≡ told
  pub shelves_are : shelves_of (state_of state result) ≡ map shelved (shelves_after version told shelves)
  pub callers : (state_of state result).callers ≡ state.callers
  pub sessions : (state_of state result).sessions ≡ state.sessions
  pub current_is : current (state_of state result) ≡ current state

module _ (version : ℕ) (state : State) (shelves : List Shelf) (is : map shelved shelves ≡ shelves_of state) where
  abbrev later : State
  later = record { versions = change_numbered retired state.versions version; callers = state.callers; sessions = state.sessions }

  stays : (refusal : Outcome) → shelves_after version refusal shelves ≡ shelves → Reclaims version state shelves (Err refusal) refusal
  stays refusal same = record { outcome = refl; shelves_are = sym is ∙ ap (map shelved) (sym same); callers = refl; sessions = refl; current_is = refl }

  goes : (shelf : Shelf) → HasShelf (pins state) version (numbered state.versions version) shelf → Reclaims version state shelves (Ok later) Done
  goes shelf has = record {
    outcome = refl;
    shelves_are = sym (shelf-without shelves state version has.version is has.is has.live);
    callers = refl;
    sessions = refl;
    current_is = length-change retired state.versions version;
  }

  -- where the version is live, by the tests
  tests : (shelf : Shelf) → HasShelf (pins state) version (numbered state.versions version) shelf → (now free : Bool)
      → Reclaims version state shelves (refused_where now IsCurrent >> (refused_where (not free) (Pinned shelf.pins) >> Ok later)) (cond now IsCurrent (cond (not free) (Pinned shelf.pins) Done))
  tests shelf has true free = stays IsCurrent refl
  tests shelf has false true = goes shelf has
  tests shelf has false false = stays (Pinned shelf.pins) refl

  by-shelf : (found : Option Shelf) → option_map shelved found ≡ option_map shelved (find (holds version) shelves) → Reclaims version state shelves (reclaim version state) (retire_told version (current state) found)
  by-shelf None e =
      let dead = none-live (pins state) version (numbered state.versions version) (e ∙ shelf-found shelves state version is) in
      subst (λ r. Reclaims version state shelves r (NotLive version)) (ap (λ live. refused_where (not live) (NotLive version) >> (refused_where (version == current state) IsCurrent >> (refused_where (not (pins state version == 0)) (Pinned (pins state version)) >> Ok later))) (sym dead)) (stays (NotLive version) refl)
  by-shelf (Some shelf) e =
      let has = has-shelf (pins state) version (numbered state.versions version) shelf (e ∙ shelf-found shelves state version is) in
      let live : is_live state version ≡ true = ap (λ o. unwrap_or (option_map (λ (v : Version). v.live) o) false) has.is ∙ has.live in
      subst (λ r. Reclaims version state shelves r (retire_told version (current state) (Some shelf)))
      (ap (λ n. refused_where (version == current state) IsCurrent >> (refused_where (not (n == 0)) (Pinned n) >> Ok later)) has.pins
      ∙ ap (λ l. refused_where (not l) (NotLive version) >> (refused_where (version == current state) IsCurrent >> (refused_where (not (pins state version == 0)) (Pinned (pins state version)) >> Ok later))) (sym live))
      (tests shelf has (version == current state) (shelf.pins == 0))

  reclaims : Reclaims version state shelves (reclaim version state) (retire_told version (current state) (find (holds version) shelves))
  reclaims = by-shelf (find (holds version) shelves) refl

none-shown : (caller version : ℕ) (result : Decision State) → shown_by caller (call.Reclaim version) result ≡ None
none-shown caller version (Ok state) = refl
none-shown caller version (Err refusal) = refl

-- ---- in a book

module _ (blocks : List (List Entry)) (own : OwnPart) (stands : StandsAfter (history_of blocks) own) (version : ℕ) (shelves : List Shelf) (entered present now : ℕ) (book : IsBook blocks (map shelved shelves) entered present now) where
  abbrev here : State
  here = state_with (history_of blocks) own

  abbrev said : Call
  said = call.Reclaim version

  kept : IsKeptOf (state_with (history_of blocks) own) (map shelved shelves) entered present now
  kept = kept-alike _ (state_with (history_of blocks) own) (map shelved shelves) entered present now (pending-alike (history_of blocks) own stands) book.kept

  made : Reclaims version here shelves (reclaim version here) (retire_told version now (find (holds version) shelves))
  made = subst (λ n. Reclaims version here shelves (reclaim version here) (retire_told version n (find (holds version) shelves))) (sym kept.current_is) (reclaims version here shelves kept.shelves_are)

  pub reclaim-told : (told : Outcome) → told ≡ retire_told version now (find (holds version) shelves) → plain_head 0 version told ≡ head own.number said here
  reclaim-told told is = ap (plain_head 0 version) (is ∙ sym made.outcome)

  pub reclaim-replied : (told : Outcome) → told ≡ retire_told version now (find (holds version) shelves) → record { head = plain_head 0 version told; shown = None } ≡ reply own.number said here
  reclaim-replied told is =
      ap (λ (h : Head). record { head = h; shown = None }) (reclaim-told told is) ∙ ap (λ (s : Option Shown). record { head = head own.number said here; shown = s }) (sym (none-shown own.number version (step own.number said here)))

  pub reclaim-book : (told : Outcome) (left : List Shelf) → told ≡ retire_told version now (find (holds version) shelves) → left ≡ shelves_after version told shelves → IsBook (with_entry blocks own said) (map shelved left) entered present now
  reclaim-book told left is left_is =
      book-shared blocks own said stands entered present now (map shelved shelves) book stands.entered (map shelved left) entered present now
      (λ was. record {
        shelves_are = ap (map shelved) (left_is ∙ ap (λ t. shelves_after version t shelves) is) ∙ sym made.shelves_are;
        entered_are = was.entered_are ∙ ap length (sym made.callers);
        present_are = was.present_are ∙ ap (count_by (λ c. not c.left)) (sym made.callers);
        current_is = was.current_is ∙ sym made.current_is;
      })

  part-later : (own_later : OwnPart) → own_later ≡ record { number = own.number; opened = own.opened; sessions = own.sessions; pending = [] } → IsPartOf (after own.number said here) own_later
  part-later own_later is =
      subst (IsPartOf (after own.number said here)) (sym is) (record {
        sessions = ap (λ ss. sessions_of (record { versions = here.versions; callers = here.callers; sessions = ss }) own.number) made.sessions ∙ stands.part.sessions;
        files = λ place visit inside. keeps_file own.number said here _ _ (stands.part.files place visit inside);
        opened = ap (λ cs. opened_by (record { versions = here.versions; callers = cs; sessions = here.sessions }) own.number) made.callers ∙ stands.part.opened;
      })

  pub reclaim-shares : (own_later : OwnPart) (answer : Reply) → answer ≡ reply own.number said here → own_later ≡ record { number = own.number; opened = own.opened; sessions = own.sessions; pending = [] } → Shares said blocks (with_entry blocks own said) own own_later answer
  reclaim-shares own_later answer answers is =
      shares blocks own said stands own_later answer answers (ap (λ (o : OwnPart). o.number) is) (ap (λ (o : OwnPart). o.pending) is)
      (ap (λ cs. is_present (record { versions = here.versions; callers = cs; sessions = here.sessions }) own.number) made.callers ∙ stands.entered)
      (part-later own_later is) stands.entered
