-- What every call keeps of the state.
use Rattle.std.proofs.Common.{◌≡◌, ℕ, zero, suc, ◌+◌, ◌≤◌, ◌==◌, Bool, true, false, not, ◌&&◌, cond, List, [], ◌∷◌, ◌++◌, length, filter, Option, Some, None, option_map, slice_get, All, Contains, refl, sym, ap, subst, ◌∙◌, inl, inr, arith}
use Rattle.std.specs.Prelude.{unwrap_or}
use Rattle.std.proofs.lemmas.Bool.Decides.{nat_tests}
use Rattle.std.proofs.lemmas.List.Elements.{All-head, All-tail, All-nil, All-cons, All-append, All-filter, All-contains_itself}
use Rattle.pc_file.specs.Contents.{Contents}
use Rattle.pc_calls.specs.declared.call.Call.{Call}
use Rattle.pc_calls.specs.declared.call.Call.TheVariants as call
use Rattle.pc_calls.specs.Carry.{Carried}
use Rattle.pc_calls.specs.History.{is_present}
use Rattle.pc_calls.specs.Kept.{IsKept}
use Rattle.pc_calls.specs.Selection.{Selection}
use Rattle.pc_calls.specs.Sound.{AreDifferent}
use Rattle.pc_calls.specs.State.{Caller, OpenSession, State, Version, file_of, is_owned, is_session, numbered, opened_by}
use Rattle.pc_calls.specs.Step.{after, asking, at_version, change_first, change_numbered, drop_first, gone, newcomer, retired, state_of, with_opened}
use Rattle.pc_calls.proofs.StepCases.{moved_state, step-gives}

-- ---- the file of a version

slice_get-more : {A : Type 0} (xs ys : List A) (place : ℕ) (x : A) → slice_get xs place ≡ Some x → slice_get (xs ++ ys) place ≡ Some x
slice_get-more [] ys place x e = absurd cc
slice_get-more (y ∷ xs) ys zero x e = e
slice_get-more (y ∷ xs) ys (suc place) x e = slice_get-more xs ys place x e

pub numbered-more : {A : Type 0} (xs more : List A) (number : ℕ) (x : A) → numbered xs number ≡ Some x → numbered (xs ++ more) number ≡ Some x
numbered-more xs more zero x e = absurd cc
numbered-more xs more (suc place) x e = slice_get-more xs more place x e

file-more : (versions more : List Version) (version : ℕ) (found : Option Version) (file : Contents) → numbered versions version ≡ found → option_map (λ v. v.file) found ≡ Some file → option_map (λ v. v.file) (numbered (versions ++ more) version) ≡ Some file
file-more versions more version None file is e = absurd cc
file-more versions more version (Some v) file is e = ap (option_map (λ (w : Version). w.file)) (numbered-more versions more version v is) ∙ e

-- what is read of each item is as before, where the change keeps it
pub change-reads : {A B : Type 0} (read : A → B) (change : A → A) → ((x : A) → read (change x) ≡ read x) → (xs : List A) (number place : ℕ) → option_map read (numbered (change_numbered change xs number) place) ≡ option_map read (numbered xs place)
change-reads read change keeps [] number place = refl
change-reads read change keeps (x ∷ xs) number zero = refl
change-reads read change keeps (x ∷ xs) zero (suc place) = refl
change-reads read change keeps (x ∷ xs) (suc zero) (suc zero) = ap Some (keeps x)
change-reads read change keeps (x ∷ xs) (suc zero) (suc (suc place)) = refl
change-reads read change keeps (x ∷ xs) (suc (suc number)) (suc zero) = refl
change-reads read change keeps (x ∷ xs) (suc (suc number)) (suc (suc place)) = change-reads read change keeps xs (suc number) (suc place)

-- the items of other numbers are as before
pub change-beside : {A : Type 0} (change : A → A) (xs : List A) (number place : ℕ) → (number == place) ≡ false → numbered (change_numbered change xs number) place ≡ numbered xs place
change-beside change [] number place other = refl
change-beside change (x ∷ xs) number zero other = refl
change-beside change (x ∷ xs) zero (suc place) other = refl
change-beside change (x ∷ xs) (suc zero) (suc zero) other = absurd cc
change-beside change (x ∷ xs) (suc zero) (suc (suc place)) other = refl
change-beside change (x ∷ xs) (suc (suc number)) (suc zero) other = refl
change-beside change (x ∷ xs) (suc (suc number)) (suc (suc place)) other = change-beside change xs (suc number) (suc place) (grind (arith, nat_tests))

pub length-change : {A : Type 0} (change : A → A) (xs : List A) (number : ℕ) → length (change_numbered change xs number) ≡ length xs
length-change change [] number = refl
length-change change (x ∷ xs) zero = refl
length-change change (x ∷ xs) (suc zero) = refl
length-change change (x ∷ xs) (suc (suc number)) = ap suc (length-change change xs (suc number))

pub keeps_file : (caller : ℕ) (said : Call) (state : State) (version : ℕ) (file : Contents) → file_of state version ≡ Some file → file_of (after caller said state) version ≡ Some file
keeps_file caller said state version file h =
    step-gives (λ said result. file_of (state_of state result) version ≡ Some file) caller state (λ said refusal other not_done. h) (λ said refusal asking. h)
    h (λ some. h) (λ said local number selection. h) (λ number target dropping carried live. h) (λ number. h)
    (λ base new. file-more state.versions _ version (numbered state.versions version) file refl h)
    (λ old other free. change-reads (λ (v : Version). v.file) retired (λ v. refl) state.versions old version ∙ h)
    h h said

-- ---- sessions

pub implied : (P Q : OpenSession → Type 0) → ((s : OpenSession) → P s → Q s) → (sessions : List OpenSession) → All P sessions → All Q sessions
implied P Q implies [] all = All-nil Q
implied P Q implies (s ∷ sessions) all = All-cons Q s sessions (implies s (All-head P s sessions all)) (implied P Q implies sessions (All-tail P s sessions all))

-- of the sessions, with the first that a test finds changed
pub change-turns : (P Q : OpenSession → Type 0) (is : OpenSession → Bool) (change : OpenSession → OpenSession) → ((s : OpenSession) → is s ≡ true → P s → Q (change s)) → ((s : OpenSession) → P s → Q s) → (sessions : List OpenSession) → All P sessions → All Q (change_first is change sessions)
change-turns P Q is change changes implies [] all = All-nil Q
change-turns P Q is change changes implies (s ∷ sessions) all = by (is s) refl (change-turns P Q is change changes implies sessions (All-tail P s sessions all))
  where
    by : (b : Bool) → is s ≡ b → All Q (change_first is change sessions) → All Q (cond b (change s ∷ sessions) (s ∷ change_first is change sessions))
    by true e rest = All-cons Q (change s) sessions (changes s e (All-head P s sessions all)) (implied P Q implies sessions (All-tail P s sessions all))
    by false e rest = All-cons Q s (change_first is change sessions) (implies s (All-head P s sessions all)) rest

pub change-keeps : (P : OpenSession → Type 0) (is : OpenSession → Bool) (change : OpenSession → OpenSession) → ((s : OpenSession) → P s → P (change s)) → (sessions : List OpenSession) → All P sessions → All P (change_first is change sessions)
change-keeps P is change keeps = change-turns P P is change (λ s found p. keeps s p) (λ s p. p)

pub drop-keeps : (P : OpenSession → Type 0) (is : OpenSession → Bool) (sessions : List OpenSession) → All P sessions → All P (drop_first is sessions)
drop-keeps P is [] all = all
drop-keeps P is (s ∷ sessions) all =
    elim (is s) as (λ b. All P (cond b sessions (s ∷ drop_first is sessions))) [
      | true ↦ All-tail P s sessions all
      | false ↦ All-cons P s (drop_first is sessions) (All-head P s sessions all) (drop-keeps P is sessions (All-tail P s sessions all))
    ]

asking-keeps : (caller : ℕ) (said : Call) (state : State) (selection : Selection) (s : OpenSession) → IsKept caller said state s → IsKept caller said state (asking selection s)
asking-keeps caller said state selection s (inl was) = inl (record { before = was.before; is_open = was.is_open; same_owner = was.same_owner; same_number = was.same_number; version = was.version })
asking-keeps caller said state selection s (inr next) = inr next

-- what a test for a session finds
owner-found : (caller number : ℕ) (s : OpenSession) → is_session caller number s ≡ true → s.owner ≡ caller
owner-found caller number s found = grind (arith, nat_tests)

number-found : (caller number : ℕ) (s : OpenSession) → is_session caller number s ≡ true → s.number ≡ number
number-found caller number s found = grind (arith, nat_tests)

module _ (caller : ℕ) (state : State) where
  was-open : (said : Call) → All (IsKept caller said state) state.sessions
  was-open said =
      implied (Contains state.sessions) (IsKept caller said state) (λ s here. inl (record { before = s; is_open = here; same_owner = refl; same_number = refl; version = inl refl })) state.sessions (All-contains_itself state.sessions)

  moves-keep : (number version : ℕ) (dropping : Bool) (carried : Carried) → All (IsKept caller (call.Rebase number version dropping) state) (moved_state caller number version state carried).sessions
  moves-keep number version dropping carried =
      change-turns (Contains state.sessions) (IsKept caller (call.Rebase number version dropping) state) (is_session caller number) (at_version version carried.selection)
      (λ s found here. inl (record { before = s; is_open = here; same_owner = refl; same_number = refl; version = inr (owner-found caller number s found, number-found caller number s found, refl) }))
      (λ s here. inl (record { before = s; is_open = here; same_owner = refl; same_number = refl; version = inl refl }))
      state.sessions (All-contains_itself state.sessions)

  pub keeps_sessions : (said : Call) → All (IsKept caller said state) (after caller said state).sessions
  keeps_sessions =
      step-gives (λ said result. All (IsKept caller said state) (state_of state result).sessions) caller state
      (λ said refusal other not_done. was-open said) (λ said refusal asking. was-open said)
      (was-open call.Enter)
      (λ some. All-append (IsKept caller call.Open state) state.sessions _ (was-open call.Open) (All-cons (IsKept caller call.Open state) _ [] (inr (refl, refl, refl)) (All-nil (IsKept caller call.Open state))))
      (λ said local number selection. change-keeps (IsKept caller said state) (is_session caller number) (asking selection) (asking-keeps caller said state selection) state.sessions (was-open said))
      (λ number version dropping carried live. moves-keep number version dropping carried)
      (λ number. drop-keeps (IsKept caller (call.Close number) state) (is_session caller number) state.sessions (was-open (call.Close number)))
      (λ base file. was-open (call.Publish base file))
      (λ version other free. was-open (call.Reclaim version))
      (was-open call.Versions)
      (All-filter (λ s. not (is_owned caller s)) (IsKept caller call.Leave state) state.sessions (was-open call.Leave))

-- no two sessions have one owner and number, after each change
pub change-different : (is : OpenSession → Bool) (change : OpenSession → OpenSession) → ((s : OpenSession) → (change s).owner ≡ s.owner) → ((s : OpenSession) → (change s).number ≡ s.number) → (sessions : List OpenSession) → AreDifferent sessions → AreDifferent (change_first is change sessions)
change-different is change owners numbers [] different = tt
change-different is change owners numbers (s ∷ sessions) different = by (is s) (change-different is change owners numbers sessions different.1)
  where
    differs : OpenSession → Type 0
    differs other = is_session s.owner s.number other ≡ false

    still : (other : OpenSession) → differs other → differs (change other)
    still other e = ap (λ o. (o == s.owner) && ((change other).number == s.number)) (owners other) ∙ ap (λ n. (other.owner == s.owner) && (n == s.number)) (numbers other) ∙ e

    by : (b : Bool) → AreDifferent (change_first is change sessions) → AreDifferent (cond b (change s ∷ sessions) (s ∷ change_first is change sessions))
    by true rest = (
      subst (λ o. All (λ other. is_session o (change s).number other ≡ false) sessions) (sym (owners s))
          (subst (λ n. All (λ other. is_session s.owner n other ≡ false) sessions) (sym (numbers s)) different.0),
      different.1,
    )
    by false rest = (change-keeps differs is change still sessions different.0, rest)

pub drop-different : (is : OpenSession → Bool) (sessions : List OpenSession) → AreDifferent sessions → AreDifferent (drop_first is sessions)
drop-different is [] different = tt
drop-different is (s ∷ sessions) different =
    elim (is s) as (λ b. AreDifferent (cond b sessions (s ∷ drop_first is sessions))) [
      | true ↦ different.1
      | false ↦ (drop-keeps (λ other. is_session s.owner s.number other ≡ false) is sessions different.0, drop-different is sessions different.1)
    ]

pub filter-different : (keeps : OpenSession → Bool) (sessions : List OpenSession) → AreDifferent sessions → AreDifferent (filter keeps sessions)
filter-different keeps [] different = tt
filter-different keeps (s ∷ sessions) different =
    elim (keeps s) as (λ b. AreDifferent (cond b (s ∷ filter keeps sessions) (filter keeps sessions))) [
      | true ↦ (All-filter keeps (λ other. is_session s.owner s.number other ≡ false) sessions different.0, filter-different keeps sessions different.1)
      | false ↦ filter-different keeps sessions different.1
    ]

pub append-different : (sessions : List OpenSession) (new : OpenSession) → All (λ s. is_session s.owner s.number new ≡ false) sessions → AreDifferent sessions → AreDifferent (sessions ++ new ∷ [])
append-different [] new differs different = (All-nil (λ other. is_session new.owner new.number other ≡ false), tt)
append-different (s ∷ sessions) new differs different =
    let differs_new = λ (other : OpenSession). is_session other.owner other.number new ≡ false in
    let differs_s = λ (other : OpenSession). is_session s.owner s.number other ≡ false in (
      All-append differs_s sessions (new ∷ []) different.0 (All-cons differs_s new [] (All-head differs_new s sessions differs) (All-nil differs_s)),
      append-different sessions new (All-tail differs_new s sessions differs) different.1,
    )

-- ---- numbers of sessions

abbrev pub opened_at : List Caller → ℕ → ℕ
opened_at callers number = unwrap_or (option_map (λ c. c.opened) (numbered callers number)) 0

change-grows : (change : Caller → Caller) → ((c : Caller) → c.opened ≤ (change c).opened) → (callers : List Caller) (number place : ℕ) → opened_at callers (suc place) ≤ opened_at (change_numbered change callers number) (suc place)
change-grows change grows [] number place = omega arith
change-grows change grows (c ∷ callers) zero place = omega arith
change-grows change grows (c ∷ callers) (suc zero) zero = grows c
change-grows change grows (c ∷ callers) (suc zero) (suc place) = omega arith
change-grows change grows (c ∷ callers) (suc (suc number)) zero = omega arith
change-grows change grows (c ∷ callers) (suc (suc number)) (suc place) = change-grows change grows callers (suc number) place

more-grows : (callers : List Caller) (place : ℕ) → opened_at callers (suc place) ≤ opened_at (callers ++ newcomer ∷ []) (suc place)
more-grows [] place = omega arith
more-grows (c ∷ callers) zero = omega arith
more-grows (c ∷ callers) (suc place) = more-grows callers place

-- so many sessions were opened, or more
pub grows-at : (change : Caller → Caller) → ((c : Caller) → c.opened ≤ (change c).opened) → (callers : List Caller) (number owner : ℕ) → opened_at callers owner ≤ opened_at (change_numbered change callers number) owner
grows-at change grows callers number zero = omega arith
grows-at change grows callers number (suc place) = change-grows change grows callers number place

pub more-at : (callers : List Caller) (owner : ℕ) → opened_at callers owner ≤ opened_at (callers ++ newcomer ∷ []) owner
more-at callers zero = omega arith
more-at callers (suc place) = more-grows callers place

pub opened_grows : (caller : ℕ) (said : Call) (state : State) (owner : ℕ) → opened_by state owner ≤ opened_by (after caller said state) owner
opened_grows caller said state owner =
    let same : opened_by state owner ≤ opened_by state owner = omega arith in
    step-gives (λ said result. opened_by state owner ≤ opened_by (state_of state result) owner) caller state
    (λ said refusal other not_done. same) (λ said refusal asking. same)
    (more-at state.callers owner) (λ some. grows-at with_opened (λ c. omega arith) state.callers caller owner)
    (λ said local number selection. same) (λ number version dropping carried live. same) (λ number. same) (λ base file. same) (λ version other free. same) same
    (grows-at gone (λ c. omega arith) state.callers caller owner)
    said

change-counts : (callers : List Caller) (place : ℕ) (c : Caller) → slice_get callers place ≡ Some c → opened_at (change_numbered with_opened callers (suc place)) (suc place) ≡ opened_at callers (suc place) + 1
change-counts [] place c e = absurd cc
change-counts (d ∷ callers) zero c e = refl
change-counts (d ∷ callers) (suc place) c e = change-counts callers place c e

opens-by : (callers : List Caller) (caller : ℕ) (found : Option Caller) → numbered callers caller ≡ found → unwrap_or (option_map (λ c. not c.left) found) false ≡ true → opened_at (change_numbered with_opened callers caller) caller ≡ opened_at callers caller + 1
opens-by callers caller None is present = absurd cc
opens-by callers zero (Some c) is present = absurd cc
opens-by callers (suc place) (Some c) is present = change-counts callers place c is

-- a caller that has entered and not left has opened one session more
pub opened_counts : (state : State) (caller : ℕ) → is_present state caller ≡ true → opened_at (change_numbered with_opened state.callers caller) caller ≡ opened_by state caller + 1
opened_counts state caller present = opens-by state.callers caller (numbered state.callers caller) refl present
