-- A session's version changes by its owner's accepted rebases alone.
use Rattle.std.proofs.Common.{◌≡◌, ℕ, ◌+◌, ◌≤◌, ◌==◌, Bool, true, false, not, ◌&&◌, cond, List, [], ◌∷◌, ◌++◌, find, Option, Some, None, All, IfSome, refl, sym, ap, subst, ◌∙◌, arith}
use Rattle.std.proofs.lemmas.Bool.Decides.{nat_tests}
use Rattle.std.proofs.lemmas.List.Elements.{All-nil, All-cons, All-append, All-filter}
use Rattle.pc_calls.specs.declared.call.Call.{Call}
use Rattle.pc_calls.specs.declared.entry.Entry.{Entry}
use Rattle.pc_calls.specs.Carry.{Carried}
use Rattle.pc_calls.specs.Decision.{Decision, is_done}
use Rattle.pc_calls.specs.History.{IsLegal, IsLegalFrom, after_entries, after_entry, state_after}
use Rattle.pc_calls.specs.OwnedSessions.{is_rebase_of, rebases_of}
use Rattle.pc_calls.specs.Sound.{AreDifferent, IsSound}
use Rattle.pc_calls.specs.State.{OpenSession, State, empty, is_owned, is_session, opened_by, session_of}
use Rattle.pc_calls.specs.Step.{after, asking, at_version, gone, outcome_of, state_of, step, with_opened}
use Rattle.pc_calls.proofs.HistoryLemmas.{after_entries-append, legal-split}
use Rattle.pc_calls.proofs.OthersLaws.{found-has}
use Rattle.pc_calls.proofs.SoundLaws.{legal_sound}
use Rattle.pc_calls.proofs.StepCases.{step-gives}
use Rattle.pc_calls.proofs.StepLaws.{change-keeps, change-turns, drop-keeps, grows-at, implied, more-at}

module _ (owner number version : ℕ) where
  -- if it is the session, it is at the version
  abbrev IsThere : OpenSession → Type 0
  IsThere s = is_session owner number s ≡ true → s.version ≡ version

  -- the number was given to the owner, and the session that has it is at the version
  record Stays (state : State) : Type 0 where
    given : number ≤ opened_by state owner
    there : All IsThere state.sessions

  -- a done call isn't a rebase of the session
  abbrev NotMoved : ℕ → Call → Decision State → Type 0
  NotMoved caller said result = ((caller == owner) && is_rebase_of number said && is_done (outcome_of result)) ≡ false

  module _ (caller : ℕ) (before : State) (stays : Stays before) where
    next-is-another : is_session owner number (record { owner = caller; number = opened_by before caller + 1; version = 0; selection = record { choices = []; bounds = record { first = None; second = None } } }) ≡ true → ⊥
    next-is-another found = by (caller == owner) refl
      where
        by : (same : Bool) → (caller == owner) ≡ same → ⊥
        by true e =
            let most : number ≤ opened_by before owner = stays.given in
            let same_caller : caller ≡ owner = grind (arith, nat_tests, e) in
            let counted : opened_by before caller ≡ opened_by before owner = ap (opened_by before) same_caller in
            grind (arith, nat_tests, found, most, counted)
        by false e = grind (arith, nat_tests, found, e)

    -- the rebase of another session
    another-moves : (moved target : ℕ) (dropping : Bool) (carried : Carried) → ((caller == owner) && (moved == number) && true) ≡ false → (s : OpenSession) → is_session caller moved s ≡ true → IsThere s → IsThere (at_version target carried.selection s)
    another-moves moved target dropping carried not_moved s found there here = absurd (grind (arith, nat_tests, not_moved, found, here))

    keeps-stays : (said : Call) → NotMoved caller said (step caller said before) → Stays (after caller said before)
    keeps-stays =
        step-gives (λ said result. NotMoved caller said result → Stays (state_of before result)) caller before
        (λ said refusal other not_done not_moved. stays) (λ said refusal asks not_moved. stays)
        (λ not_moved. record { given = omega (arith, stays.given, more-at before.callers owner); there = stays.there })
        (λ some not_moved. record {
          given = omega (arith, stays.given, grows-at with_opened (λ c. omega arith) before.callers caller owner);
          there = All-append IsThere before.sessions _ stays.there (All-cons IsThere _ [] (λ found. absurd (next-is-another found)) (All-nil IsThere));
        })
        (λ said local moved selection not_moved. record { given = stays.given; there = change-keeps IsThere (is_session caller moved) (asking selection) (λ s there. there) before.sessions stays.there })
        (λ moved target dropping carried live not_moved. record { given = stays.given; there = change-turns IsThere IsThere (is_session caller moved) (at_version target carried.selection) (another-moves moved target dropping carried not_moved) (λ s there. there) before.sessions stays.there })
        (λ closed not_moved. record { given = stays.given; there = drop-keeps IsThere (is_session caller closed) before.sessions stays.there })
        (λ base file not_moved. record { given = stays.given; there = stays.there })
        (λ old other free not_moved. record { given = stays.given; there = stays.there })
        (λ not_moved. stays)
        (λ not_moved. record { given = omega (arith, stays.given, grows-at gone (λ c. omega arith) before.callers caller owner); there = All-filter (λ s. not (is_owned caller s)) IsThere before.sessions stays.there })

  first-is-not : (entry : Entry) (entries : List Entry) → rebases_of owner number (entry ∷ entries) ≡ [] → ((entry.caller == owner) && is_rebase_of number entry.call && is_done entry.head.outcome) ≡ false
  first-is-not entry entries none =
      elim ((entry.caller == owner) && is_rebase_of number entry.call && is_done entry.head.outcome) as (λ b. cond b (entry ∷ rebases_of owner number entries) (rebases_of owner number entries) ≡ [] → b ≡ false) [
        | true ↦ (λ e. absurd cc)
        | false ↦ (λ e. refl)
      ] none

  rest-are-not : (entry : Entry) (entries : List Entry) → rebases_of owner number (entry ∷ entries) ≡ [] → rebases_of owner number entries ≡ []
  rest-are-not entry entries none =
      elim ((entry.caller == owner) && is_rebase_of number entry.call && is_done entry.head.outcome) as (λ b. cond b (entry ∷ rebases_of owner number entries) (rebases_of owner number entries) ≡ [] → rebases_of owner number entries ≡ []) [
        | true ↦ (λ e. absurd cc)
        | false ↦ (λ e. e)
      ] none

  stays-from : (state : State) (entries : List Entry) → IsLegalFrom state entries → rebases_of owner number entries ≡ [] → Stays state → Stays (after_entries state entries)
  unfolding after_entries IsLegalFrom
  stays-from state [] legal none stays = stays
  stays-from state (entry ∷ entries) legal none stays =
      let not_moved = ap (λ h. (entry.caller == owner) && is_rebase_of number entry.call && is_done h.outcome) (sym legal.1) ∙ first-is-not entry entries none in
      stays-from (after_entry state entry) entries legal.2 (rest-are-not entry entries none) (keeps-stays entry.caller state stays entry.call not_moved)

  -- what a test finds passes it
  found-passes : (sessions : List OpenSession) (s : OpenSession) → find (is_session owner number) sessions ≡ Some s → is_session owner number s ≡ true
  found-passes [] s found = absurd cc
  found-passes (t ∷ sessions) s found =
      elim (is_session owner number t) as (λ b. is_session owner number t ≡ b → cond b (Some t) (find (is_session owner number) sessions) ≡ Some s → is_session owner number s ≡ true) [
        | true ↦ (λ e here. let same : t ≡ s = cc in subst (λ x. is_session owner number x ≡ true) same e)
        | false ↦ (λ e here. found-passes sessions s here)
      ] refl found

  -- the one that is found is the only one
  module _ (s : OpenSession) (at : s.version ≡ version) where
    none-else : (sessions : List OpenSession) (t : OpenSession) → is_session owner number t ≡ true → All (λ other. is_session t.owner t.number other ≡ false) sessions → All IsThere sessions
    none-else sessions t is others =
        implied (λ other. is_session t.owner t.number other ≡ false) IsThere (λ other differs found. absurd (grind (arith, nat_tests, is, differs, found))) sessions others

    alone : (sessions : List OpenSession) → AreDifferent sessions → find (is_session owner number) sessions ≡ Some s → All IsThere sessions
    alone [] different found = All-nil IsThere
    alone (t ∷ sessions) different found =
        elim (is_session owner number t) as (λ b. is_session owner number t ≡ b → cond b (Some t) (find (is_session owner number) sessions) ≡ Some s → All IsThere (t ∷ sessions)) [
          | true ↦ (λ e here. let same : t ≡ s = cc in All-cons IsThere t sessions (λ found. ap (λ (x : OpenSession). x.version) same ∙ at) (none-else sessions t e different.0))
          | false ↦ (λ e here. All-cons IsThere t sessions (λ found. absurd cc) (alone sessions different.1 here))
        ] refl found

module _ (history entries : List Entry) (owner number : ℕ) (session : OpenSession) (legal : IsLegal (history ++ entries)) (none : rebases_of owner number entries ≡ []) (found : session_of (state_after history) owner number ≡ Some session) where
  parts : IsLegal history × IsLegalFrom (state_after history) entries
  parts = legal-split empty history entries legal

  sound : IsSound (state_after history)
  sound = legal_sound history parts.0

  number-given : number ≤ opened_by (state_after history) owner
  number-given =
      let passes = found-passes owner number session.version (state_after history).sessions session found in
      let most = found-has (λ s. s.number ≤ opened_by (state_after history) s.owner) (is_session owner number) (state_after history).sessions session sound.numbers found in
      let same_owner : session.owner ≡ owner = grind (arith, nat_tests, passes) in
      let same_number : session.number ≡ number = grind (arith, nat_tests, passes) in
      subst (λ n. n ≤ opened_by (state_after history) owner) same_number (subst (λ o. session.number ≤ opened_by (state_after history) o) same_owner most)

  later-stays : Stays owner number session.version (state_after (history ++ entries))
  later-stays =
      subst (Stays owner number session.version) (sym (after_entries-append empty history entries))
      (stays-from owner number session.version (state_after history) entries parts.1 none (record { given = number-given; there = alone owner number session.version session refl (state_after history).sessions sound.different found }))

  pub stays_at_version : IfSome (session_of (state_after (history ++ entries)) owner number) (λ later. later.version ≡ session.version)
  stays_at_version = by (session_of (state_after (history ++ entries)) owner number) refl
    where
      by : (o : Option OpenSession) → session_of (state_after (history ++ entries)) owner number ≡ o → IfSome o (λ later. later.version ≡ session.version)
      by None e = tt
      by (Some later) e =
          found-has (IsThere owner number session.version) (is_session owner number) (state_after (history ++ entries)).sessions later later-stays.there e (found-passes owner number session.version (state_after (history ++ entries)).sessions later e)
