-- Every state that a legal history leads to is sound.
use Rattle.std.proofs.Common.{◌≡◌, ℕ, zero, suc, ◌+◌, ◌≤◌, ◌==◌, Bool, true, false, cond, ◌&&◌, List, [], ◌∷◌, ◌++◌, length, filter, Option, Some, None, option_map, slice_get, count_by, All, refl, sym, ap, subst, ◌∙◌, arith}
use Rattle.std.specs.Prelude.{not, unwrap_or}
use Rattle.std.proofs.lemmas.Bool.Decides.{nat_tests}
use Rattle.std.proofs.lemmas.List.{length_push}
use Rattle.std.proofs.lemmas.List.Elements.{All-head, All-tail, All-nil, All-cons, All-append, All-filter}
use Rattle.std.proofs.lemmas.List.Sums.{sum_by-cons}
use Rattle.pc_file.specs.Contents.{Contents}
use Rattle.pc_calls.specs.declared.call.Call.{Call}
use Rattle.pc_calls.specs.declared.entry.Entry.{Entry}
use Rattle.pc_calls.specs.History.{IsLegal, IsLegalFrom, after_entries, after_entry, is_present, may_make, state_after}
use Rattle.pc_calls.specs.Sound.{IsSound}
use Rattle.pc_calls.specs.State.{OpenSession, State, Version, current, empty, is_live, is_owned, is_session, numbered, opened_by, pins}
use Rattle.pc_calls.specs.Step.{after, asking, at_version, change_first, change_numbered, drop_first, gone, newcomer, retired, state_of, with_opened}
use Rattle.pc_calls.proofs.StepCases.{step-gives}
use Rattle.pc_calls.proofs.StepLaws.{append-different, change-beside, change-different, change-keeps, drop-different, drop-keeps, filter-different, grows-at, implied, length-change, more-at, numbered-more, opened_at, opened_counts}

abbrev live_in : List Version → ℕ → Bool
live_in versions version = unwrap_or (option_map (λ v. v.live) (numbered versions version)) false

live-by : (versions more : List Version) (version : ℕ) (found : Option Version) → numbered versions version ≡ found → unwrap_or (option_map (λ v. v.live) found) false ≡ true → live_in (versions ++ more) version ≡ true
live-by versions more version None is live = absurd cc
live-by versions more version (Some v) is live = ap (λ (o : Option Version). unwrap_or (option_map (λ v. v.live) o) false) (numbered-more versions more version v is) ∙ live

-- what is live stays so where more are published
live-more : (versions more : List Version) (version : ℕ) → live_in versions version ≡ true → live_in (versions ++ more) version ≡ true
live-more versions more version live = live-by versions more version (numbered versions version) refl live

stands-last : (versions : List Version) (new : Version) → slice_get (versions ++ new ∷ []) (length versions) ≡ Some new
stands-last [] new = refl
stands-last (v ∷ versions) new = stands-last versions new

-- what was published last is live
live-last : (versions : List Version) (file : Contents) (number : ℕ) → number ≡ length versions + 1 → live_in (versions ++ record { file = file; live = true } ∷ []) number ≡ true
live-last versions file zero is = absurd (omega (arith, is))
live-last versions file (suc place) is =
    ap (λ (n : ℕ). live_in (versions ++ record { file = file; live = true } ∷ []) (suc n)) (omega (arith, is))
    ∙ ap (λ (o : Option Version). unwrap_or (option_map (λ v. v.live) o) false) (stands-last versions (record { file = file; live = true }))

-- none of the sessions is at a version that has no pin
none-found : (version : ℕ) (sessions : List OpenSession) → (count_by (λ s. s.version == version) sessions == 0) ≡ true → All (λ s. (s.version == version) ≡ false) sessions
none-found version [] none = All-nil (λ (s : OpenSession). (s.version == version) ≡ false)
none-found version (s ∷ sessions) none =
    let counted : count_by (λ t. t.version == version) (s ∷ sessions) ≡ cond (s.version == version) 1 0 + count_by (λ t. t.version == version) sessions =
    sum_by-cons (λ (t : OpenSession). cond (t.version == version) 1 0) s sessions in
    elim (s.version == version) as (λ b. (s.version == version) ≡ b → All (λ t. (t.version == version) ≡ false) (s ∷ sessions)) [
      | true ↦ (λ e. absurd (grind (arith, nat_tests, none, e, counted)))
      | false ↦ (λ e. All-cons (λ (t : OpenSession). (t.version == version) ≡ false) s sessions e (none-found version sessions (grind (arith, nat_tests, none, e, counted))))
    ] refl

-- a caller's next session has a number of its own
next-differs : (caller : ℕ) (new s : OpenSession) (opened_of : ℕ → ℕ) → new.owner ≡ caller → new.number ≡ opened_of caller + 1 → s.number ≤ opened_of s.owner → is_session s.owner s.number new ≡ false
next-differs caller new s opened_of owner number most = by (new.owner == s.owner) refl
  where
    by : (same : Bool) → (new.owner == s.owner) ≡ same → (same && (new.number == s.number)) ≡ false
    by false e = refl
    by true e = grind (arith, e, owner, number, most)

module _ (before : State) (sound : IsSound before) where
  sound-entered : IsSound (record { versions = before.versions; callers = before.callers ++ newcomer ∷ []; sessions = before.sessions })
  sound-entered = record {
    current_live = sound.current_live;
    sessions_live = sound.sessions_live;
    numbers = implied (λ s. s.number ≤ opened_by before s.owner) (λ s. s.number ≤ opened_at (before.callers ++ newcomer ∷ []) s.owner) (λ s most. omega (arith, most, more-at before.callers s.owner)) before.sessions sound.numbers;
    different = sound.different;
  }

  sound-opened : (caller : ℕ) → is_present before caller ≡ true → (current before == 0) ≡ false
      → IsSound (record { versions = before.versions; callers = change_numbered with_opened before.callers caller; sessions = before.sessions ++ record { owner = caller; number = opened_by before caller + 1; version = current before; selection = record { choices = []; bounds = record { first = None; second = None } } } ∷ [] })
  sound-opened caller present some =
      let new : OpenSession = record { owner = caller; number = opened_by before caller + 1; version = current before; selection = record { choices = []; bounds = record { first = None; second = None } } } in
      let live_of = λ (s : OpenSession). is_live before s.version ≡ true in
      let most_of = λ (s : OpenSession). s.number ≤ opened_at (change_numbered with_opened before.callers caller) s.owner in
      record {
        current_live = sound.current_live;
        sessions_live = All-append live_of before.sessions (new ∷ []) sound.sessions_live (All-cons live_of new [] (sound.current_live some) (All-nil live_of));
        numbers = All-append most_of before.sessions (new ∷ [])
            (implied (λ s. s.number ≤ opened_by before s.owner) most_of (λ s most. omega (arith, most, grows-at with_opened (λ c. omega arith) before.callers caller s.owner)) before.sessions sound.numbers)
            (All-cons most_of new [] (omega (arith, opened_counts before caller present)) (All-nil most_of));
        different = append-different before.sessions new (implied (λ s. s.number ≤ opened_by before s.owner) (λ s. is_session s.owner s.number new ≡ false) (λ s most. next-differs caller new s (opened_by before) refl refl most) before.sessions sound.numbers) sound.different;
      }

  -- one session is changed, which keeps its owner and number
  sound-changed : (is : OpenSession → Bool) (change : OpenSession → OpenSession) → ((s : OpenSession) → (change s).owner ≡ s.owner) → ((s : OpenSession) → (change s).number ≡ s.number)
      → ((s : OpenSession) → is_live before s.version ≡ true → is_live before (change s).version ≡ true)
      → IsSound (record { versions = before.versions; callers = before.callers; sessions = change_first is change before.sessions })
  sound-changed is change owners numbers lives = record {
    current_live = sound.current_live;
    sessions_live = change-keeps (λ s. is_live before s.version ≡ true) is change lives before.sessions sound.sessions_live;
    numbers = change-keeps (λ s. s.number ≤ opened_by before s.owner) is change (λ s most. subst (λ o. (change s).number ≤ opened_by before o) (sym (owners s)) (subst (λ n. n ≤ opened_by before s.owner) (sym (numbers s)) most)) before.sessions sound.numbers;
    different = change-different is change owners numbers before.sessions sound.different;
  }

  sound-closed : (is : OpenSession → Bool) → IsSound (record { versions = before.versions; callers = before.callers; sessions = drop_first is before.sessions })
  sound-closed is = record {
    current_live = sound.current_live;
    sessions_live = drop-keeps (λ s. is_live before s.version ≡ true) is before.sessions sound.sessions_live;
    numbers = drop-keeps (λ s. s.number ≤ opened_by before s.owner) is before.sessions sound.numbers;
    different = drop-different is before.sessions sound.different;
  }

  sound-published : (file : Contents) → IsSound (record { versions = before.versions ++ record { file = file; live = true } ∷ []; callers = before.callers; sessions = before.sessions })
  sound-published file = record {
    current_live = λ some. live-last before.versions file (length (before.versions ++ record { file = file; live = true } ∷ [])) (length_push before.versions (record { file = file; live = true }));
    sessions_live = implied (λ s. is_live before s.version ≡ true) (λ s. live_in (before.versions ++ record { file = file; live = true } ∷ []) s.version ≡ true) (λ s live. live-more before.versions (record { file = file; live = true } ∷ []) s.version live) before.sessions sound.sessions_live;
    numbers = sound.numbers;
    different = sound.different;
  }

  -- a version that is neither current nor pinned is live no more
  live-beside : (version other : ℕ) → (version == other) ≡ false → is_live before other ≡ true → live_in (change_numbered retired before.versions version) other ≡ true
  live-beside version other differ live = ap (λ (o : Option Version). unwrap_or (option_map (λ v. v.live) o) false) (change-beside retired before.versions version other differ) ∙ live

  both-live : (version : ℕ) (sessions : List OpenSession) → All (λ s. (s.version == version) ≡ false) sessions → All (λ s. is_live before s.version ≡ true) sessions → All (λ s. live_in (change_numbered retired before.versions version) s.version ≡ true) sessions
  both-live version [] others live = All-nil (λ (s : OpenSession). live_in (change_numbered retired before.versions version) s.version ≡ true)
  both-live version (s ∷ sessions) others live =
      let other = λ (t : OpenSession). (t.version == version) ≡ false in
      let lives = λ (t : OpenSession). is_live before t.version ≡ true in
      let differs : (s.version == version) ≡ false = All-head other s sessions others in
      All-cons (λ t. live_in (change_numbered retired before.versions version) t.version ≡ true) s sessions
      (live-beside version s.version (grind (arith, differs)) (All-head lives s sessions live))
      (both-live version sessions (All-tail other s sessions others) (All-tail lives s sessions live))

  sound-reclaimed : (version : ℕ) → (version == current before) ≡ false → (pins before version == 0) ≡ true → IsSound (record { versions = change_numbered retired before.versions version; callers = before.callers; sessions = before.sessions })
  sound-reclaimed version other free =
      let same : length (change_numbered retired before.versions version) ≡ length before.versions = length-change retired before.versions version in
      record {
        current_live = λ some. subst (λ n. live_in (change_numbered retired before.versions version) n ≡ true) (sym same) (live-beside version (current before) other (sound.current_live (ap (λ n. n == 0) (sym same) ∙ some)));
        sessions_live = both-live version before.sessions (none-found version before.sessions free) sound.sessions_live;
        numbers = sound.numbers;
        different = sound.different;
      }

  sound-left : (caller : ℕ) → IsSound (record { versions = before.versions; callers = change_numbered gone before.callers caller; sessions = filter (λ s. not (is_owned caller s)) before.sessions })
  sound-left caller =
      let most_of = λ (s : OpenSession). s.number ≤ opened_at (change_numbered gone before.callers caller) s.owner in
      record {
        current_live = sound.current_live;
        sessions_live = All-filter (λ s. not (is_owned caller s)) (λ s. is_live before s.version ≡ true) before.sessions sound.sessions_live;
        numbers = All-filter (λ s. not (is_owned caller s)) most_of before.sessions (implied (λ s. s.number ≤ opened_by before s.owner) most_of (λ s most. omega (arith, most, grows-at gone (λ c. omega arith) before.callers caller s.owner)) before.sessions sound.numbers);
        different = filter-different (λ s. not (is_owned caller s)) before.sessions sound.different;
      }

  -- a call that its caller may make keeps the state sound
  pub keeps_sound : (caller : ℕ) (said : Call) → may_make before caller said ≡ true → IsSound (after caller said before)
  keeps_sound caller =
      step-gives (λ said result. may_make before caller said ≡ true → IsSound (state_of before result)) caller before
      (λ said refusal other not_done may. sound) (λ said refusal asking may. sound)
      (λ may. sound-entered) (λ some may. sound-opened caller may some)
      (λ said local number selection may. sound-changed (is_session caller number) (asking selection) (λ s. refl) (λ s. refl) (λ s live. live))
      (λ number version dropping carried live may. sound-changed (is_session caller number) (at_version version carried.selection) (λ s. refl) (λ s. refl) (λ s was. live))
      (λ number may. sound-closed (is_session caller number)) (λ base file may. sound-published file)
      (λ version other free may. sound-reclaimed version other free) (λ may. sound) (λ may. sound-left caller)

pub sound_from : (state : State) (entries : List Entry) → IsSound state → IsLegalFrom state entries → IsSound (after_entries state entries)
unfolding after_entries IsLegalFrom
sound_from state [] sound legal = sound
sound_from state (entry ∷ entries) sound legal = sound_from (after_entry state entry) entries (keeps_sound state sound entry.caller entry.call legal.0) legal.2

sound-empty : IsSound empty
sound-empty = record {
  current_live = λ some. absurd cc;
  sessions_live = All-nil (λ (s : OpenSession). is_live empty s.version ≡ true);
  numbers = All-nil (λ (s : OpenSession). s.number ≤ opened_by empty s.owner);
  different = tt;
}

pub legal_sound : (history : List Entry) → IsLegal history → IsSound (state_after history)
legal_sound history legal = sound_from empty history sound-empty legal
