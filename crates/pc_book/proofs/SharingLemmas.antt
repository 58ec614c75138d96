-- What a call that others see does beside the journal.
use Rattle.std.proofs.Common.{◌≡◌, ℕ, zero, suc, ◌+◌, ◌-◌, ◌<◌, ◌≤◌, ◌==◌, ◌^◌, Bool, true, false, cond, List, [], ◌∷◌, ◌++◌, length, map, slice_get, Option, Some, None, Err, option_map, All, refl, sym, subst, ap, ◌∙◌, arith}
use Rattle.std.specs.Prelude.{unwrap_or}
use Rattle.std.proofs.lemmas.Bool.Decides.{nat_tests}
use Rattle.std.proofs.lemmas.List.{length-map}
use Rattle.std.proofs.lemmas.List.Sums.{count_by-le-length, length-filter}
use Rattle.pc_calls.specs.declared.call.Call.{Call}
use Rattle.pc_calls.specs.declared.entry.Entry.{Entry}
use Rattle.pc_calls.specs.declared.head.Head.{Head}
use Rattle.pc_calls.specs.declared.outcome.Outcome.{Outcome}
use Rattle.pc_calls.specs.declared.reply.Reply.{Reply}
use Rattle.pc_calls.specs.Decision.{Decision}
use Rattle.pc_calls.specs.Heads.{head, head_by, shown_by}
use Rattle.pc_calls.specs.History.{is_present, may_make}
use Rattle.pc_calls.specs.Sound.{IsSound}
use Rattle.pc_calls.specs.State.{OpenSession, State, Version, current, file_of, is_owned, numbered, open_sessions, pins}
use Rattle.pc_calls.specs.Step.{after, state_of, step}
use Rattle.pc_calls.proofs.SoundLaws.{legal_sound}
use Rattle.pc_book.specs.Book.{IsBook, IsFewerThan, IsKeptOf, Shares, history_of, state_of_book, with_entry}
use Rattle.pc_book.specs.Own.{IsPartOf, OwnPart, StandsAfter, owned_by, state_with}
use Rattle.pc_book.specs.Sharing.{Brings, IsSeen}
use Rattle.pc_book.specs.Shelves.{Shelved, shelved, shelves_from, shelves_of}
use Rattle.pc_book.specs.Visits.{plain_head}
use Rattle.pc_book.specs.declared.shelf.Shelf.{Shelf}
use Rattle.pc_book.proofs.BookLemmas.{book-shared, few-alike, kept-alike, pending-alike, shares, shelves-have}

-- ---- the last item of a list

abbrev pub last_of : {A : Type 0} → List A → Option A
last_of [] = None
last_of (x ∷ []) = Some x
last_of (x ∷ y ∷ ys) = last_of (y ∷ ys)

last-place : {A : Type 0} (x : A) (xs : List A) → slice_get (x ∷ xs) (length xs) ≡ last_of (x ∷ xs)
last-place x [] = refl
last-place x (y ∷ ys) = last-place y ys

pub last-at : {A : Type 0} (xs : List A) → slice_get xs (length xs - 1) ≡ last_of xs
last-at [] = refl
last-at (x ∷ xs) = let place : length (x ∷ xs) - 1 ≡ length xs = omega arith in ap (slice_get (x ∷ xs)) place ∙ last-place x xs

pub last-numbered : {A : Type 0} (xs : List A) → numbered xs (length xs) ≡ last_of xs
last-numbered [] = refl
last-numbered (x ∷ xs) = last-place x xs

pub last-map : {A B : Type 0} (f : A → B) (xs : List A) → last_of (map f xs) ≡ option_map f (last_of xs)
last-map f [] = refl
last-map f (x ∷ []) = refl
last-map f (x ∷ y ∷ ys) = last-map f (y ∷ ys)

last-more : {A : Type 0} (x : A) (xs : List A) (last : A) → last_of xs ≡ Some last → last_of (x ∷ xs) ≡ Some last
last-more x [] last e = absurd cc
last-more x (y ∷ ys) last e = e

pub last-none : {A : Type 0} (xs : List A) → last_of xs ≡ None → xs ≡ []
last-none [] e = refl
last-none (x ∷ []) e = absurd cc
last-none (x ∷ y ∷ ys) e = let none : y ∷ ys ≡ [] = last-none (y ∷ ys) e in absurd cc

-- ---- the last live version

-- where the last version is live, it is the last of the shelves
pub shelf-last : (count : ℕ → ℕ) (first : ℕ) (versions : List Version) (last : Version) → last_of versions ≡ Some last → last.live ≡ true → (number : ℕ) → suc number ≡ first + length versions
    → last_of (shelves_from count first versions) ≡ Some (record { number = number; file = last.file; pins = count number })
shelf-last count first [] last e live number is = absurd cc
shelf-last count first (v ∷ []) last e live number is =
    let same : v ≡ last = cc in
    let here : first ≡ number = omega (arith, is) in
    ap (λ (b : Bool). last_of (cond b (record { number = first; file = v.file; pins = count first } ∷ []) [])) (ap (λ (w : Version). w.live) same ∙ live)
    ∙ ap (λ (w : Version). Some (record { number = first; file = w.file; pins = count first })) same
    ∙ ap (λ (n : ℕ). Some (record { number = n; file = last.file; pins = count n })) here
shelf-last count first (v ∷ w ∷ ws) last e live number is =
    let rest = shelf-last count (suc first) (w ∷ ws) last e live number (omega (arith, is)) in
    elim v.live as (λ b. last_of (cond b (record { number = first; file = v.file; pins = count first } ∷ shelves_from count (suc first) (w ∷ ws)) (shelves_from count (suc first) (w ∷ ws))) ≡ Some (record { number = number; file = last.file; pins = count number })) [
      | true ↦ last-more (record { number = first; file = v.file; pins = count first }) (shelves_from count (suc first) (w ∷ ws)) _ rest
      | false ↦ rest
    ]

-- what the last shelf tells of a sound state
pub record IsLast (state : State) (shelf : Option Shelved) : Type 0 where
  pub none : shelf ≡ None → (current state == 0) ≡ true
  pub some : (last : Shelved) → shelf ≡ Some last → ((current state == 0) ≡ false) × (last.number ≡ current state) × (file_of state (current state) ≡ Some last.file)

last-by : (state : State) → IsSound state → (found : Option Version) → last_of state.versions ≡ found → IsLast state (last_of (shelves_of state))
last-by state sound None e =
    let empty : state.versions ≡ [] = last-none state.versions e in
    record {
      none = λ none. ap (λ (vs : List Version). length vs == 0) empty;
      some = λ last is. let none : None ≡ Some last = sym (ap (λ (vs : List Version). last_of (shelves_from (pins state) 1 vs)) empty) ∙ is in absurd cc;
    }
last-by state sound (Some v) e =
    let there : numbered state.versions (current state) ≡ Some v = last-numbered state.versions ∙ e in
    let nonzero : (current state == 0) ≡ false = some-numbered state.versions (length state.versions) v there in
    let live : v.live ≡ true = sym (ap (λ (o : Option Version). unwrap_or (option_map (λ w. w.live) o) false) there) ∙ sound.current_live nonzero in
    let shelf = shelf-last (pins state) 1 state.versions v e live (current state) (omega arith) in
    record {
      none = λ none. let is : Some (record { number = current state; file = v.file; pins = pins state (current state) }) ≡ None = sym shelf ∙ none in absurd cc;
      some = λ last is.
          let same : record { number = current state; file = v.file; pins = pins state (current state) } ≡ last = (let both : Some (record { number = current state; file = v.file; pins = pins state (current state) }) ≡ Some last = sym shelf ∙ is in cc) in
          (nonzero, ap (λ (s : Shelved). s.number) (sym same), ap (option_map (λ (w : Version). w.file)) there ∙ ap (λ (s : Shelved). Some s.file) same);
    }
  where
    some-numbered : (vs : List Version) (number : ℕ) (w : Version) → numbered vs number ≡ Some w → (number == 0) ≡ false
    some-numbered vs zero w is = absurd cc
    some-numbered vs (suc place) w is = grind (arith, nat_tests)

pub last-shelf : (state : State) → IsSound state → IsLast state (last_of (shelves_of state))
last-shelf state sound = last-by state sound (last_of state.versions) refl

-- ---- a call that is refused

abbrev pub reply_of : ℕ → Call → State → Decision State → Reply
reply_of caller said before result = record { head = head_by caller said before result; shown = shown_by caller said result }

module _ (state : State) (own : OwnPart) (shelves : List Shelved) (entered present now : ℕ) (seen : IsSeen state own shelves entered present now) where
  -- it changes nothing
  pub refused-brings : (said : Call) (refusal : Outcome) (answer : Reply) → step own.number said state ≡ Err refusal → answer ≡ reply_of own.number said state (Err refusal) → Brings said state own own answer shelves entered present now
  refused-brings said refusal answer gives is =
      let same : after own.number said state ≡ state = ap (state_of state) gives in
      record {
        answer = is ∙ ap (reply_of own.number said state) (sym gives);
        same_number = refl;
        same_pending = refl;
        there = ap (λ s. is_present s own.number) same ∙ seen.there;
        part = subst (λ s. IsPartOf s own) (sym same) seen.part;
        kept = subst (λ s. IsKeptOf s shelves entered present now) (sym same) seen.kept;
      }

  -- how many sessions the caller has open
  pub open-count : open_sessions state own.number ≡ length own.sessions
  open-count = sym (length-filter (is_owned own.number) state.sessions) ∙ ap length seen.part.sessions ∙ length-map own.sessions (owned_by own.number)

-- ---- the state that a call of a part finds

module _ (blocks : List (List Entry)) (own : OwnPart) (shelves : List Shelved) (entered present now : ℕ) (stands : StandsAfter (history_of blocks) own) (book : IsBook blocks shelves entered present now) where
  pub seen-by : IsSeen (state_with (history_of blocks) own) own shelves entered present now
  seen-by = record {
    sound = legal_sound (history_of blocks ++ own.pending) stands.legal;
    there = stands.entered;
    part = stands.part;
    kept = kept-alike (state_of_book blocks) (state_with (history_of blocks) own) shelves entered present now (pending-alike (history_of blocks) own stands) book.kept;
  }

  pub few-by : IsFewerThan (length blocks) (state_with (history_of blocks) own)
  few-by = few-alike (length blocks) (state_of_book blocks) (state_with (history_of blocks) own) (pending-alike (history_of blocks) own stands) book.few

  -- no more sessions are opened, open or pinned than blocks stand
  pub few-opened : own.opened ≤ length blocks
  few-opened = omega (arith, few-by.opened own.number, stands.part.opened)

pub few-pins : (blocks : List (List Entry)) (own : OwnPart) (shelves : List Shelf) (entered present now : ℕ) → StandsAfter (history_of blocks) own → IsBook blocks (map shelved shelves) entered present now → length blocks < 2 ^ 62 → All (λ (shelf : Shelf). shelf.pins < 2 ^ 63) shelves
few-pins blocks own shelves entered present now stands book small =
    shelves-have (λ version n. n < 2 ^ 63) (pins (state_of_book blocks)) 1 (λ version past. omega (arith, count_by-le-length (λ (s : OpenSession). s.version == version) (state_of_book blocks).sessions, book.few.sessions, small)) (state_of_book blocks).versions shelves book.kept.shelves_are

-- ---- the journal and the part after it

module _ (blocks : List (List Entry)) (own : OwnPart) (said : Call) (stands : StandsAfter (history_of blocks) own) (may : may_make (state_with (history_of blocks) own) own.number said ≡ true)
    (between : OwnPart) (answer : Reply) (shelves_now : List Shelved) (entered_now present_now now_later : ℕ)
    (brings : Brings said (state_with (history_of blocks) own) own between answer shelves_now entered_now present_now now_later) where
  -- the book of the journal with the entry
  pub brought-book : (shelves : List Shelved) (entered present now : ℕ) → IsBook blocks shelves entered present now → (later : List (List Entry)) → later ≡ with_entry blocks own said → IsBook later shelves_now entered_now present_now now_later
  brought-book shelves entered present now book later is =
      subst (λ bs. IsBook bs shelves_now entered_now present_now now_later) (sym is)
      (book-shared blocks own said stands entered present now shelves book may shelves_now entered_now present_now now_later (λ _. brings.kept))

  -- the entry of a call that lists nothing in its head
  pub brought-journal : (later : List (List Entry)) → head own.number said (state_with (history_of blocks) own) ≡ plain_head (head own.number said (state_with (history_of blocks) own)).session (head own.number said (state_with (history_of blocks) own)).version (head own.number said (state_with (history_of blocks) own)).outcome
      → later ≡ blocks ++ (between.pending ++ record { caller = between.number; call = said; head = plain_head answer.head.session answer.head.version answer.head.outcome } ∷ []) ∷ [] → later ≡ with_entry blocks own said
  brought-journal later plain is =
      is
      ∙ ap (λ (es : List Entry). blocks ++ (es ++ record { caller = between.number; call = said; head = plain_head answer.head.session answer.head.version answer.head.outcome } ∷ []) ∷ []) brings.same_pending
      ∙ ap (λ (n : ℕ). blocks ++ (own.pending ++ record { caller = n; call = said; head = plain_head answer.head.session answer.head.version answer.head.outcome } ∷ []) ∷ []) brings.same_number
      ∙ ap (λ (r : Reply). blocks ++ (own.pending ++ record { caller = own.number; call = said; head = plain_head r.head.session r.head.version r.head.outcome } ∷ []) ∷ []) brings.answer
      ∙ ap (λ (h : Head). blocks ++ (own.pending ++ record { caller = own.number; call = said; head = h } ∷ []) ∷ []) (sym plain)

  pub brought-shares : (own_later : OwnPart) (later : List (List Entry)) → own_later ≡ record { number = between.number; opened = between.opened; sessions = between.sessions; pending = [] } → later ≡ with_entry blocks own said → Shares said blocks later own own_later answer
  brought-shares own_later later part_is is =
      let spent : OwnPart = record { number = between.number; opened = between.opened; sessions = between.sessions; pending = [] } in
      let part : IsPartOf (after own.number said (state_with (history_of blocks) own)) spent = record { sessions = brings.part.sessions; files = brings.part.files; opened = brings.part.opened } in
      subst (λ bs. Shares said blocks bs own own_later answer) (sym is)
      (subst (λ o. Shares said blocks (with_entry blocks own said) own o answer) (sym part_is) (shares blocks own said stands spent answer brings.answer brings.same_number refl brings.there part may))
