-- A journal with one block more.
use Rattle.std.proofs.Common.{◌≡◌, ℕ, zero, suc, ◌+◌, ◌≤◌, ◌==◌, Bool, true, false, not, cond, List, [], ◌∷◌, ◌++◌, length, map, filter, count_by, None, All, refl, sym, subst, ap, ◌∙◌, arith}
use Rattle.std.proofs.lemmas.List.{append-nil, append_assoc, length_push}
use Rattle.std.proofs.lemmas.List.Elements.{All-head, All-tail, All-nil, All-cons}
use Rattle.std.proofs.lemmas.List.Sums.{sum_by-cons}
use Rattle.pc_calls.specs.declared.call.Call.{Call}
use Rattle.pc_calls.specs.declared.entry.Entry.{Entry}
use Rattle.pc_calls.specs.declared.head.Head.{Head}
use Rattle.pc_calls.specs.declared.reply.Reply.{Reply}
use Rattle.pc_calls.specs.Heads.{reply}
use Rattle.pc_calls.specs.History.{IsLegal, IsLegalFrom, after_entries, after_entry, entry_of, is_present, may_make, state_after}
use Rattle.pc_calls.specs.LocalReply.{is_local}
use Rattle.pc_calls.specs.State.{Caller, OpenSession, State, Version, current, empty, is_owned, is_session, opened_by, pins}
use Rattle.pc_calls.specs.Step.{after, asking, at_version, change_first, change_numbered, drop_first, gone, newcomer, retired, state_of, with_opened}
use Rattle.pc_calls.proofs.HistoryLemmas.{after_entries-append}
use Rattle.pc_calls.proofs.NumberLaws.{gone-opened, more-opened}
use Rattle.pc_calls.proofs.StepCases.{step-gives}
use Rattle.pc_calls.proofs.StepLaws.{length-change, opened_at}
use Rattle.pc_book.specs.Book.{IsBook, IsFewerThan, IsKeptOf, Shares, history_of, state_of_book, with_entry}
use Rattle.pc_book.specs.Own.{IsLocalOf, IsPartOf, OwnPart, StandsAfter, state_with}
use Rattle.pc_book.specs.Shelves.{Shelved, repinned, shelved, shelves_from}
use Rattle.pc_book.specs.declared.shelf.Shelf.{Shelf}
use Rattle.pc_book.proofs.OwnLemmas.{after-more, legal-more}

-- ---- the states before and after entries that wait

-- callers, versions and what is counted of sessions are the same
pub record IsAlike (before later : State) : Type 0 where
  pub callers : later.callers ≡ before.callers
  pub versions : later.versions ≡ before.versions
  pub pinned : (version : ℕ) → pins later version ≡ pins before version
  pub count : length later.sessions ≡ length before.sessions

pub length-changed : (is : OpenSession → Bool) (change : OpenSession → OpenSession) (sessions : List OpenSession) → length (change_first is change sessions) ≡ length sessions
length-changed is change [] = refl
length-changed is change (s ∷ sessions) =
    elim (is s) as (λ b. length (cond b (change s ∷ sessions) (s ∷ change_first is change sessions)) ≡ suc (length sessions)) [
      | true ↦ refl
      | false ↦ ap suc (length-changed is change sessions)
    ]

count-same : (test is : OpenSession → Bool) (change : OpenSession → OpenSession) → ((s : OpenSession) → test (change s) ≡ test s) → (sessions : List OpenSession) → count_by test (change_first is change sessions) ≡ count_by test sessions
count-same test is change keeps [] = refl
count-same test is change keeps (s ∷ sessions) =
    elim (is s) as (λ b. count_by test (cond b (change s ∷ sessions) (s ∷ change_first is change sessions)) ≡ count_by test (s ∷ sessions)) [
      | true ↦ sum_by-cons (λ t. cond (test t) 1 0) (change s) sessions ∙ ap (λ b. cond b 1 0 + count_by test sessions) (keeps s) ∙ sym (sum_by-cons (λ t. cond (test t) 1 0) s sessions)
      | false ↦ sum_by-cons (λ t. cond (test t) 1 0) s (change_first is change sessions) ∙ ap (λ n. cond (test s) 1 0 + n) (count-same test is change keeps sessions) ∙ sym (sum_by-cons (λ t. cond (test t) 1 0) s sessions)
    ]

module _ (caller : ℕ) (before : State) where
  same-alike : IsAlike before before
  same-alike = record { callers = refl; versions = refl; pinned = λ version. refl; count = refl }

  local-alike : (said : Call) → is_local said ≡ true → IsAlike before (after caller said before)
  local-alike =
      step-gives (λ said result. is_local said ≡ true → IsAlike before (state_of before result)) caller before
      (λ said refusal other not_done local. same-alike) (λ said refusal asking local. same-alike)
      (λ local. absurd cc) (λ some local. absurd cc)
      (λ said is number selection local. record {
        callers = refl;
        versions = refl;
        pinned = λ version. count-same (λ s. s.version == version) _ (asking selection) (λ s. refl) before.sessions;
        count = length-changed _ (asking selection) before.sessions;
      })
      (λ number version dropping carried live local. absurd cc) (λ number local. absurd cc) (λ base file local. absurd cc) (λ version other free local. absurd cc) (λ local. absurd cc) (λ local. absurd cc)

pub entries-alike : (number : ℕ) (state : State) (entries : List Entry) → All (IsLocalOf number) entries → IsAlike state (after_entries state entries)
unfolding after_entries
entries-alike number state [] local = record { callers = refl; versions = refl; pinned = λ version. refl; count = refl }
entries-alike number state (entry ∷ entries) local =
    let first = local-alike entry.caller state entry.call (All-head (IsLocalOf number) entry entries local).1 in
    let rest = entries-alike number (after_entry state entry) entries (All-tail (IsLocalOf number) entry entries local) in
    record {
      callers = rest.callers ∙ first.callers;
      versions = rest.versions ∙ first.versions;
      pinned = λ version. rest.pinned version ∙ first.pinned version;
      count = rest.count ∙ first.count;
    }

pub pending-alike : (history : List Entry) (own : OwnPart) → StandsAfter history own → IsAlike (state_after history) (state_with history own)
pending-alike history own stands =
    subst (IsAlike (state_after history)) (sym (after_entries-append empty history own.pending)) (entries-alike own.number (state_after history) own.pending stands.local)

-- ---- what is kept beside a journal

-- the shelves are told by the counts of their versions
pub shelves-agree : (one other : ℕ → ℕ) (first : ℕ) → ((version : ℕ) → first ≤ version → one version ≡ other version) → (versions : List Version) → shelves_from one first versions ≡ shelves_from other first versions
shelves-agree one other first same [] = refl
shelves-agree one other first same (version ∷ versions) =
    ap (λ n. cond version.live (record { number = first; file = version.file; pins = n } ∷ shelves_from one (suc first) versions) (shelves_from one (suc first) versions)) (same first (omega arith))
    ∙ ap (λ rest. cond version.live (record { number = first; file = version.file; pins = other first } ∷ rest) rest) (shelves-agree one other (suc first) (λ v past. same v (omega (arith, past))) versions)

-- with other pins they are the shelves of other counts
pub shelves-repinned : (change : ℕ → ℕ → ℕ) (shelves : List Shelf) (count : ℕ → ℕ) (first : ℕ) (versions : List Version) → map shelved shelves ≡ shelves_from count first versions → map shelved (map (repinned change) shelves) ≡ shelves_from (λ version. change version (count version)) first versions
shelves-repinned change shelves count first versions is = map-repinned shelves ∙ ap (map repin) is ∙ from-repinned first versions
  where
    repin : Shelved → Shelved
    repin shelf = record { number = shelf.number; file = shelf.file; pins = change shelf.number shelf.pins }

    map-repinned : (xs : List Shelf) → map shelved (map (repinned change) xs) ≡ map repin (map shelved xs)
    map-repinned [] = refl
    map-repinned (x ∷ xs) = ap (λ ys. record { number = x.number; file = x.version.file; pins = change x.number x.pins } ∷ ys) (map-repinned xs)

    from-repinned : (next : ℕ) (vs : List Version) → map repin (shelves_from count next vs) ≡ shelves_from (λ version. change version (count version)) next vs
    from-repinned next [] = refl
    from-repinned next (v ∷ vs) =
        elim v.live as (λ live. map repin (cond live (record { number = next; file = v.file; pins = count next } ∷ shelves_from count (suc next) vs) (shelves_from count (suc next) vs))
        ≡ cond live (record { number = next; file = v.file; pins = change next (count next) } ∷ shelves_from (λ version. change version (count version)) (suc next) vs) (shelves_from (λ version. change version (count version)) (suc next) vs)) [
          | true ↦ ap (λ ys. record { number = next; file = v.file; pins = change next (count next) } ∷ ys) (from-repinned (suc next) vs)
          | false ↦ from-repinned (suc next) vs
        ]

-- what the counts of the versions have, the shelves have
pub shelves-have : (P : ℕ → ℕ → Type 0) (count : ℕ → ℕ) (first : ℕ) → ((version : ℕ) → first ≤ version → P version (count version)) → (versions : List Version) (shelves : List Shelf) → map shelved shelves ≡ shelves_from count first versions → All (λ (shelf : Shelf). P shelf.number shelf.pins) shelves
shelves-have P count first has versions shelves is = mapped-have shelves (subst (All (λ (s : Shelved). P s.number s.pins)) (sym is) (from-have first has versions))
  where
    from-have : (next : ℕ) → ((version : ℕ) → next ≤ version → P version (count version)) → (vs : List Version) → All (λ (s : Shelved). P s.number s.pins) (shelves_from count next vs)
    from-have next each [] = All-nil (λ (s : Shelved). P s.number s.pins)
    from-have next each (v ∷ vs) =
        elim v.live as (λ live. All (λ (s : Shelved). P s.number s.pins) (cond live (record { number = next; file = v.file; pins = count next } ∷ shelves_from count (suc next) vs) (shelves_from count (suc next) vs))) [
          | true ↦ All-cons (λ (s : Shelved). P s.number s.pins) _ (shelves_from count (suc next) vs) (each next (omega arith)) (from-have (suc next) (λ version past. each version (omega (arith, past))) vs)
          | false ↦ from-have (suc next) (λ version past. each version (omega (arith, past))) vs
        ]

    mapped-have : (xs : List Shelf) → All (λ (s : Shelved). P s.number s.pins) (map shelved xs) → All (λ (shelf : Shelf). P shelf.number shelf.pins) xs
    mapped-have [] all = All-nil (λ (shelf : Shelf). P shelf.number shelf.pins)
    mapped-have (x ∷ xs) all = All-cons (λ (shelf : Shelf). P shelf.number shelf.pins) x xs (All-head (λ (s : Shelved). P s.number s.pins) (shelved x) (map shelved xs) all) (mapped-have xs (All-tail (λ (s : Shelved). P s.number s.pins) (shelved x) (map shelved xs) all))

pub kept-alike : (before later : State) (shelves : List Shelved) (entered present now : ℕ) → IsAlike before later → IsKeptOf before shelves entered present now → IsKeptOf later shelves entered present now
kept-alike before later shelves entered present now alike kept = record {
  shelves_are = kept.shelves_are ∙ shelves-agree (pins before) (pins later) 1 (λ version past. sym (alike.pinned version)) before.versions ∙ ap (shelves_from (pins later) 1) (sym alike.versions);
  entered_are = kept.entered_are ∙ ap length (sym alike.callers);
  present_are = kept.present_are ∙ ap (count_by (λ c. not c.left)) (sym alike.callers);
  current_is = kept.current_is ∙ ap length (sym alike.versions);
}

pub few-alike : (blocks : ℕ) (before later : State) → IsAlike before later → IsFewerThan blocks before → IsFewerThan blocks later
few-alike blocks before later alike few = record {
  callers = omega (arith, few.callers, ap length alike.callers);
  versions = omega (arith, few.versions, ap length alike.versions);
  sessions = omega (arith, few.sessions, alike.count);
  opened = λ caller. subst (λ cs. opened_by (record { versions = later.versions; callers = cs; sessions = later.sessions }) caller ≤ blocks) (sym alike.callers) (few.opened caller);
}

-- ---- one block more

pub history-more : (blocks : List (List Entry)) (block : List Entry) → history_of (blocks ++ block ∷ []) ≡ history_of blocks ++ block
history-more [] block = append-nil block
history-more (b ∷ blocks) block = ap (λ es. b ++ es) (history-more blocks block) ∙ sym (append_assoc b (history_of blocks) block)

-- a book with a block more, by what is kept of the state after it
pub book-more : (blocks : List (List Entry)) (block : List Entry) (later : State) → IsLegal (history_of blocks ++ block) → state_after (history_of blocks ++ block) ≡ later
    → (shelves : List Shelved) (entered present now : ℕ) → IsKeptOf later shelves entered present now → IsFewerThan (length blocks + 1) later → IsBook (blocks ++ block ∷ []) shelves entered present now
book-more blocks block later legal is shelves entered present now kept few =
    let same : state_of_book (blocks ++ block ∷ []) ≡ later = ap state_after (history-more blocks block) ∙ is in
    record {
      legal = subst IsLegal (sym (history-more blocks block)) legal;
      kept = subst (λ s. IsKeptOf s shelves entered present now) (sym same) kept;
      few = subst (λ n. IsFewerThan n (state_of_book (blocks ++ block ∷ []))) (sym (length_push blocks block)) (subst (IsFewerThan (length blocks + 1)) (sym same) few);
    }

length-dropped : (is : OpenSession → Bool) (sessions : List OpenSession) → length (drop_first is sessions) ≤ length sessions
length-dropped is [] = omega arith
length-dropped is (s ∷ sessions) =
    elim (is s) as (λ b. length (cond b sessions (s ∷ drop_first is sessions)) ≤ suc (length sessions)) [
      | true ↦ omega arith
      | false ↦ omega (arith, length-dropped is sessions)
    ]

length-kept : (keeps : OpenSession → Bool) (sessions : List OpenSession) → length (filter keeps sessions) ≤ length sessions
length-kept keeps [] = omega arith
length-kept keeps (s ∷ sessions) =
    elim (keeps s) as (λ b. length (cond b (s ∷ filter keeps sessions) (filter keeps sessions)) ≤ suc (length sessions)) [
      | true ↦ omega (arith, length-kept keeps sessions)
      | false ↦ omega (arith, length-kept keeps sessions)
    ]

opened-one : (callers : List Caller) (caller owner : ℕ) → opened_at (change_numbered with_opened callers caller) owner ≤ opened_at callers owner + 1
opened-one callers caller zero = omega arith
opened-one [] caller (suc place) = omega arith
opened-one (c ∷ callers) zero (suc place) = omega arith
opened-one (c ∷ callers) (suc zero) (suc zero) = omega arith
opened-one (c ∷ callers) (suc zero) (suc (suc place)) = omega arith
opened-one (c ∷ callers) (suc (suc number)) (suc zero) = omega arith
opened-one (c ∷ callers) (suc (suc number)) (suc (suc place)) = opened-one callers (suc number) (suc place)

-- a call changes each count by one at most
module _ (blocks caller : ℕ) (before : State) (few : IsFewerThan blocks before) where
  pub same-few : IsFewerThan (blocks + 1) before
  same-few = record {
    callers = omega (arith, few.callers);
    versions = omega (arith, few.versions);
    sessions = omega (arith, few.sessions);
    opened = λ owner. omega (arith, few.opened owner);
  }

  pub few-more : (said : Call) → IsFewerThan (blocks + 1) (after caller said before)
  few-more =
      step-gives (λ said result. IsFewerThan (blocks + 1) (state_of before result)) caller before
      (λ said refusal other not_done. same-few) (λ said refusal asking. same-few)
      (record { callers = omega (arith, few.callers, length_push before.callers newcomer); versions = same-few.versions; sessions = same-few.sessions; opened = λ owner. omega (arith, few.opened owner, more-opened before.callers owner) })
      (λ some. record {
        callers = omega (arith, few.callers, length-change with_opened before.callers caller);
        versions = same-few.versions;
        sessions = omega (arith, few.sessions, length_push before.sessions (record { owner = caller; number = opened_by before caller + 1; version = current before; selection = record { choices = []; bounds = record { first = None; second = None } } }));
        opened = λ owner. omega (arith, few.opened owner, opened-one before.callers caller owner);
      })
      (λ said local number selection. record { callers = same-few.callers; versions = same-few.versions; sessions = omega (arith, few.sessions, length-changed (is_session caller number) (asking selection) before.sessions); opened = same-few.opened })
      (λ number version dropping carried live. record { callers = same-few.callers; versions = same-few.versions; sessions = omega (arith, few.sessions, length-changed (is_session caller number) (at_version version carried.selection) before.sessions); opened = same-few.opened })
      (λ number. record { callers = same-few.callers; versions = same-few.versions; sessions = omega (arith, few.sessions, length-dropped (is_session caller number) before.sessions); opened = same-few.opened })
      (λ base file. record { callers = same-few.callers; versions = omega (arith, few.versions, length_push before.versions (record { file = file; live = true })); sessions = same-few.sessions; opened = same-few.opened })
      (λ version other free. record { callers = same-few.callers; versions = omega (arith, few.versions, length-change retired before.versions version); sessions = same-few.sessions; opened = same-few.opened })
      same-few
      (record {
        callers = omega (arith, few.callers, length-change gone before.callers caller);
        versions = same-few.versions;
        sessions = omega (arith, few.sessions, length-kept (λ s. not (is_owned caller s)) before.sessions);
        opened = λ owner. omega (arith, few.opened owner, gone-opened before.callers caller owner);
      })

module _ (blocks : List (List Entry)) (own : OwnPart) (said : Call) (stands : StandsAfter (history_of blocks) own) where
  here : State
  here = state_with (history_of blocks) own

  entry : Entry
  entry = entry_of (state_with (history_of blocks) own) own.number said

  -- the state after the block is the one after the call
  pub state-more : state_of_book (with_entry blocks own said) ≡ after own.number said (state_with (history_of blocks) own)
  unfolding entry
  state-more = ap state_after (history-more blocks (own.pending ++ entry ∷ [])) ∙ after-more (history_of blocks) own.pending entry

  -- the book after it, by what is kept of that state
  pub book-shared : (entered present now : ℕ) (shelves : List Shelved) → IsBook blocks shelves entered present now → may_make (state_with (history_of blocks) own) own.number said ≡ true
      → (shelves_now : List Shelved) (entered_now present_now current_now : ℕ)
      → (IsKeptOf (state_with (history_of blocks) own) shelves entered present now → IsKeptOf (after own.number said (state_with (history_of blocks) own)) shelves_now entered_now present_now current_now)
      → IsBook (with_entry blocks own said) shelves_now entered_now present_now current_now
  unfolding entry
  book-shared entered present now shelves book may shelves_now entered_now present_now current_now keeps =
      let alike = pending-alike (history_of blocks) own stands in
      book-more blocks (own.pending ++ entry ∷ []) (after own.number said (state_with (history_of blocks) own))
      (legal-more (history_of blocks) own.pending entry stands.legal may refl) (after-more (history_of blocks) own.pending entry)
      shelves_now entered_now present_now current_now
      (keeps (kept-alike (state_of_book blocks) (state_with (history_of blocks) own) shelves entered present now alike book.kept))
      (few-more (length blocks) own.number (state_with (history_of blocks) own) (few-alike (length blocks) (state_of_book blocks) (state_with (history_of blocks) own) alike book.few) said)

  -- and what the call comes to
  pub shares : (later : OwnPart) (answer : Reply) → answer ≡ reply own.number said (state_with (history_of blocks) own) → later.number ≡ own.number → later.pending ≡ []
      → is_present (after own.number said (state_with (history_of blocks) own)) own.number ≡ true → IsPartOf (after own.number said (state_with (history_of blocks) own)) later
      → may_make (state_with (history_of blocks) own) own.number said ≡ true
      → Shares said blocks (with_entry blocks own said) own later answer
  unfolding entry
  shares later answer answers same none there part may =
      let with_none : history_of (with_entry blocks own said) ++ later.pending ≡ history_of (with_entry blocks own said) = ap (λ es. history_of (with_entry blocks own said) ++ es) none ∙ append-nil (history_of (with_entry blocks own said)) in
      let state_is : state_with (history_of (with_entry blocks own said)) later ≡ after own.number said (state_with (history_of blocks) own) = ap state_after with_none ∙ state-more in
      record {
        appended = refl;
        answer = answers;
        same_number = same;
        spent = none;
        stands = record {
          entered = subst (λ n. is_present (state_with (history_of (with_entry blocks own said)) later) n ≡ true) (sym same) (ap (λ s. is_present s own.number) state_is ∙ there);
          local = subst (All (IsLocalOf later.number)) (sym none) (All-nil (IsLocalOf later.number));
          legal = subst IsLegal (sym with_none) (subst IsLegal (sym (history-more blocks (own.pending ++ entry ∷ []))) (legal-more (history_of blocks) own.pending entry stands.legal may refl));
          part = subst (λ s. IsPartOf s later) (sym state_is) part;
        };
      }

-- the book of no call
no-opened : (caller : ℕ) → opened_by empty caller ≡ 0
no-opened zero = refl
no-opened (suc place) = refl

empty-book : IsBook [] [] 0 0 0
unfolding IsLegalFrom after_entries
empty-book = record {
  legal = tt;
  kept = record { shelves_are = refl; entered_are = refl; present_are = refl; current_is = refl };
  few = record { callers = omega arith; versions = omega arith; sessions = omega arith; opened = λ caller. omega (arith, no-opened caller) };
}

pub empty-by : (blocks : List (List Entry)) (shelves : List Shelf) → blocks ≡ [] → shelves ≡ [] → IsBook blocks (map shelved shelves) 0 0 0
empty-by blocks shelves no_block no_shelf = subst (λ bs. IsBook bs (map shelved shelves) 0 0 0) (sym no_block) (subst (λ (ss : List Shelf). IsBook [] (map shelved ss) 0 0 0) (sym no_shelf) empty-book)

-- ---- for the answers

-- the journal with the block of an entry that has the head of the reply
pub appended-as : (blocks : List (List Entry)) (own : OwnPart) (said : Call) (told : Head) → told ≡ (reply own.number said (state_with (history_of blocks) own)).head
    → blocks ++ (own.pending ++ record { caller = own.number; call = said; head = told } ∷ []) ∷ [] ≡ with_entry blocks own said
appended-as blocks own said told is = ap (λ h. blocks ++ (own.pending ++ record { caller = own.number; call = said; head = h } ∷ []) ∷ []) is

-- what is kept of the state after the waiting entries
pub kept-with : (blocks : List (List Entry)) (own : OwnPart) → StandsAfter (history_of blocks) own → (shelves : List Shelved) (entered present now : ℕ) → IsBook blocks shelves entered present now → IsKeptOf (state_with (history_of blocks) own) shelves entered present now
kept-with blocks own stands shelves entered present now book =
    kept-alike (state_of_book blocks) (state_with (history_of blocks) own) shelves entered present now (pending-alike (history_of blocks) own stands) book.kept

pub shares-as : (said : Call) (before blocks later : List (List Entry)) (own own_later : OwnPart) (answer : Reply) → blocks ≡ before → later ≡ with_entry blocks own said → Shares said blocks (with_entry blocks own said) own own_later answer → Shares said before later own own_later answer
shares-as said before blocks later own own_later answer same is shared =
    subst (λ ls. Shares said before ls own own_later answer) (sym is) (subst (λ bs. Shares said bs (with_entry blocks own said) own own_later answer) same shared)

-- a part whose waiting entries went into a block is still the state's
pub part-sealed : (state : State) (own later : OwnPart) → later ≡ record { number = own.number; opened = own.opened; sessions = own.sessions; pending = [] } → IsPartOf state own → IsPartOf state later
part-sealed state own later is part = subst (IsPartOf state) (sym is) (record { sessions = part.sessions; files = part.files; opened = part.opened })

-- ---- waiting entries alone

pub book-settled : (blocks : List (List Entry)) (own : OwnPart) → StandsAfter (history_of blocks) own → (shelves : List Shelved) (entered present now : ℕ) → IsBook blocks shelves entered present now → IsBook (blocks ++ own.pending ∷ []) shelves entered present now
book-settled blocks own stands shelves entered present now book =
    let alike = pending-alike (history_of blocks) own stands in
    book-more blocks own.pending (state_with (history_of blocks) own) stands.legal refl shelves entered present now
    (kept-alike (state_of_book blocks) (state_with (history_of blocks) own) shelves entered present now alike book.kept)
    (same-few (length blocks) own.number (state_with (history_of blocks) own) (few-alike (length blocks) (state_of_book blocks) (state_with (history_of blocks) own) alike book.few))

pub settles : (blocks : List (List Entry)) (own later : OwnPart) → StandsAfter (history_of blocks) own → later ≡ record { number = own.number; opened = own.opened; sessions = own.sessions; pending = [] } → StandsAfter (history_of (blocks ++ own.pending ∷ [])) later
settles blocks own later stands is =
    let history_is : history_of (blocks ++ own.pending ∷ []) ++ [] ≡ history_of blocks ++ own.pending = append-nil (history_of (blocks ++ own.pending ∷ [])) ∙ history-more blocks own.pending in
    subst (StandsAfter (history_of (blocks ++ own.pending ∷ []))) (sym is) (record {
      entered = ap (λ h. is_present (state_after h) own.number) history_is ∙ stands.entered;
      local = All-nil (IsLocalOf own.number);
      legal = subst IsLegal (sym history_is) stands.legal;
      part = subst (λ h. IsPartOf (state_after h) (record { number = own.number; opened = own.opened; sessions = own.sessions; pending = [] })) (sym history_is) (part-sealed (state_with (history_of blocks) own) own (record { number = own.number; opened = own.opened; sessions = own.sessions; pending = [] }) refl stands.part);
    })

-- the part stands after the blocks as the body has them
pub stands-at : (before blocks : List (List Entry)) (own : OwnPart) → blocks ≡ before → StandsAfter (history_of before) own → StandsAfter (history_of blocks) own
stands-at before blocks own same stands = subst (λ bs. StandsAfter (history_of bs) own) (sym same) stands
