-- A caller leaves, or closes a session.
use Rattle.std.proofs.Common.{◌≡◌, ℕ, zero, suc, ◌+◌, ◌-◌, ◌≤◌, ◌==◌, Bool, true, false, not, cond, List, [], ◌∷◌, map, filter, find, count_by, Option, Some, None, option_map, All, refl, sym, ap, ◌∙◌, arith}
use Rattle.std.specs.Prelude.{unwrap_or}
use Rattle.std.proofs.lemmas.List.Sums.{sum_by-cons}
use Rattle.pc_calls.specs.declared.call.Call.TheVariants.{Leave}
use Rattle.pc_calls.specs.declared.entry.Entry.{Entry}
use Rattle.pc_calls.specs.History.{is_present}
use Rattle.pc_calls.specs.State.{Caller, OpenSession, State, is_owned, numbered, pins}
use Rattle.pc_calls.specs.Step.{after, change_numbered, drop_first, gone}
use Rattle.pc_calls.proofs.StepLaws.{length-change}
use Rattle.pc_session.specs.Visit.{Visit}
use Rattle.pc_book.specs.declared.shelf.Shelf.{Shelf}
use Rattle.pc_book.specs.Book.{IsBook, IsKeptOf, history_of, present_callers}
use Rattle.pc_book.specs.Own.{IsPartOf, OwnPart, StandsAfter, owned_by, state_with}
use Rattle.pc_book.specs.Shelves.{repinned, shelved, shelves_of, visits_at}
use Rattle.pc_book.proofs.BookLemmas.{kept-with, shelves-agree, shelves-have, shelves-repinned}

-- ---- counts

-- what passes a test is counted among the owner's sessions and the others'
count-split : (test : OpenSession → Bool) (owner : ℕ) (sessions : List OpenSession) → count_by test sessions ≡ count_by test (filter (λ s. not (is_owned owner s)) sessions) + count_by test (filter (is_owned owner) sessions)
count-split test owner [] = refl
count-split test owner (s ∷ sessions) =
    elim (is_owned owner s) as (λ b. count_by test (s ∷ sessions) ≡ count_by test (cond (not b) (s ∷ filter (λ t. not (is_owned owner t)) sessions) (filter (λ t. not (is_owned owner t)) sessions)) + count_by test (cond b (s ∷ filter (is_owned owner) sessions) (filter (is_owned owner) sessions))) [
      | true ↦ omega (arith, one s sessions, one s (filter (is_owned owner) sessions), count-split test owner sessions)
      | false ↦ omega (arith, one s sessions, one s (filter (λ t. not (is_owned owner t)) sessions), count-split test owner sessions)
    ]
  where
    one : (t : OpenSession) (ts : List OpenSession) → count_by test (t ∷ ts) ≡ cond (test t) 1 0 + count_by test ts
    one t ts = sum_by-cons (λ u. cond (test u) 1 0) t ts

-- a caller's sessions at a version
count-visits : (owner version : ℕ) (visits : List Visit) → count_by (λ s. s.version == version) (map (owned_by owner) visits) ≡ visits_at visits version
count-visits owner version [] = refl
count-visits owner version (visit ∷ visits) =
    sum_by-cons (λ (s : OpenSession). cond (s.version == version) 1 0) (owned_by owner visit) (map (owned_by owner) visits)
    ∙ ap (λ n. cond (visit.version == version) 1 0 + n) (count-visits owner version visits)
    ∙ sym (sum_by-cons (λ (v : Visit). cond (v.version == version) 1 0) visit visits)

-- one session less
pub count-dropped : (test is : OpenSession → Bool) (sessions : List OpenSession) (s : OpenSession) → find is sessions ≡ Some s → count_by test sessions ≡ count_by test (drop_first is sessions) + cond (test s) 1 0
count-dropped test is [] s found = absurd cc
count-dropped test is (t ∷ sessions) s found =
    elim (is t) as (λ b. cond b (Some t) (find is sessions) ≡ Some s → count_by test (t ∷ sessions) ≡ count_by test (cond b sessions (t ∷ drop_first is sessions)) + cond (test s) 1 0) [
      | true ↦ (λ here. let same : t ≡ s = cc in let counted = one t sessions in let eq : cond {A = ℕ} (test t) 1 0 ≡ cond (test s) 1 0 = ap (λ u. cond (test u) 1 0) same in omega (arith, counted, eq))
      | false ↦ (λ here. let rest = count-dropped test is sessions s here in omega (arith, one t sessions, one t (drop_first is sessions), rest))
    ] found
  where
    one : (u : OpenSession) (us : List OpenSession) → count_by test (u ∷ us) ≡ cond (test u) 1 0 + count_by test us
    one u us = sum_by-cons (λ w. cond (test w) 1 0) u us

-- one caller less is present
count-gone : (callers : List Caller) (caller : ℕ) (found : Option Caller) → numbered callers caller ≡ found → unwrap_or (option_map (λ c. not c.left) found) false ≡ true
    → count_by (λ c. not c.left) callers ≡ count_by (λ c. not c.left) (change_numbered gone callers caller) + 1
count-gone callers caller None is present = absurd cc
count-gone callers zero (Some c) is present = absurd cc
count-gone [] (suc place) (Some c) is present = absurd cc
count-gone (d ∷ callers) (suc zero) (Some c) is present =
    let same : d ≡ c = cc in
    let here : not d.left ≡ true = ap (λ (x : Caller). not x.left) same ∙ present in
    let before : count_by (λ x. not x.left) (d ∷ callers) ≡ cond (not d.left) 1 0 + count_by (λ x. not x.left) callers = sum_by-cons (λ (x : Caller). cond (not x.left) 1 0) d callers in
    let later : count_by (λ x. not x.left) (gone d ∷ callers) ≡ 0 + count_by (λ x. not x.left) callers = sum_by-cons (λ (x : Caller). cond (not x.left) 1 0) (gone d) callers in
    let one : cond {A = ℕ} (not d.left) 1 0 ≡ 1 = ap (λ b. cond b 1 0) here in
    omega (arith, before, later, one)
count-gone (d ∷ callers) (suc (suc place)) (Some c) is present =
    let before : count_by (λ x. not x.left) (d ∷ callers) ≡ cond (not d.left) 1 0 + count_by (λ x. not x.left) callers = sum_by-cons (λ (x : Caller). cond (not x.left) 1 0) d callers in
    let later : count_by (λ x. not x.left) (d ∷ change_numbered gone callers (suc place)) ≡ cond (not d.left) 1 0 + count_by (λ x. not x.left) (change_numbered gone callers (suc place)) = sum_by-cons (λ (x : Caller). cond (not x.left) 1 0) d (change_numbered gone callers (suc place)) in
    omega (arith, before, later, count-gone callers (suc place) (Some c) is present)

-- ---- leave

module _ (state : State) (own : OwnPart) (part : IsPartOf state own) where
  pins-split : (version : ℕ) → pins state version ≡ pins (after own.number Leave state) version + visits_at own.sessions version
  pins-split version =
      count-split (λ s. s.version == version) own.number state.sessions
      ∙ ap (λ ss. count_by (λ s. s.version == version) (filter (λ s. not (is_owned own.number s)) state.sessions) + count_by (λ s. s.version == version) ss) part.sessions
      ∙ ap (λ n. count_by (λ s. s.version == version) (filter (λ s. not (is_owned own.number s)) state.sessions) + n) (count-visits own.number version own.sessions)

  pub enough : (shelves : List Shelf) → map shelved shelves ≡ shelves_of state → All (λ (shelf : Shelf). visits_at own.sessions shelf.number ≤ shelf.pins) shelves
  enough shelves is = shelves-have (λ version count. visits_at own.sessions version ≤ count) (pins state) 1 (λ version past. omega (arith, pins-split version)) state.versions shelves is

  present-less : is_present state own.number ≡ true → present_callers state ≡ present_callers (after own.number Leave state) + 1
  present-less present = count-gone state.callers own.number (numbered state.callers own.number) refl present

  pub some-present : is_present state own.number ≡ true → 1 ≤ present_callers state
  some-present present = omega (arith, present-less present)

  pub kept-left : is_present state own.number ≡ true → (shelves : List Shelf) (entered present now : ℕ) → IsKeptOf state (map shelved shelves) entered present now
      → IsKeptOf (after own.number Leave state) (map shelved (map (repinned (λ number count. count - visits_at own.sessions number)) shelves)) entered (present - 1) now
  kept-left there shelves entered present now kept = record {
    shelves_are =
        shelves-repinned (λ number count. count - visits_at own.sessions number) shelves (pins state) 1 state.versions kept.shelves_are
        ∙ shelves-agree (λ version. pins state version - visits_at own.sessions version) (pins (after own.number Leave state)) 1 (λ version past. omega (arith, pins-split version)) state.versions;
    entered_are = kept.entered_are ∙ sym (length-change gone state.callers own.number);
    present_are = omega (arith, kept.present_are, present-less there);
    current_is = kept.current_is;
  }

module _ (blocks : List (List Entry)) (own : OwnPart) (stands : StandsAfter (history_of blocks) own) (shelves : List Shelf) (entered present now : ℕ) (book : IsBook blocks (map shelved shelves) entered present now) where
  -- the shelves have the pins that go
  pub enough-left : All (λ (shelf : Shelf). visits_at own.sessions shelf.number ≤ shelf.pins) shelves
  enough-left = enough (state_with (history_of blocks) own) own stands.part shelves (kept-with blocks own stands (map shelved shelves) entered present now book).shelves_are

  -- the caller is there, so somebody is present
  pub someone-left : 1 ≤ present
  someone-left = omega (arith, (kept-with blocks own stands (map shelved shelves) entered present now book).present_are, some-present (state_with (history_of blocks) own) own stands.part stands.entered)
