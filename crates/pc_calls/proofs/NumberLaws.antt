-- The numbers that a legal history gave are 1, 2, 3 and so on, each once.
use Rattle.std.proofs.Common.{◌≡◌, ℕ, zero, suc, ◌+◌, ◌==◌, Bool, true, false, cond, List, [], ◌∷◌, ◌++◌, length, Ok, Err, option_map, refl, sym, ap, ◌∙◌, arith}
use Rattle.std.specs.Prelude.{unwrap_or}
use Rattle.std.proofs.lemmas.Bool.Decides.{nat_tests}
use Rattle.std.proofs.lemmas.List.{append-nil, append_assoc, length_push}
use Rattle.pc_calls.specs.declared.call.Call.{Call}
use Rattle.pc_calls.specs.declared.call.Call.TheVariants as call
use Rattle.pc_calls.specs.declared.entry.Entry.{Entry}
use Rattle.pc_calls.specs.declared.head.Head.{Head}
use Rattle.pc_calls.specs.declared.outcome.Outcome.{Outcome}
use Rattle.pc_calls.specs.Decision.{is_done}
use Rattle.pc_calls.specs.Heads.{head, head_by}
use Rattle.pc_calls.specs.History.{IsLegal, IsLegalFrom, after_entries, after_entry, may_make, state_after}
use Rattle.pc_calls.specs.LocalReply.{is_local}
use Rattle.pc_calls.specs.Numbers.{all_given, caller_given, entered_callers, numbers_from, opened_sessions, published_versions, session_given, version_given}
use Rattle.pc_calls.specs.State.{Caller, State, current, empty, opened_by}
use Rattle.pc_calls.specs.Step.{after, change_numbered, gone, newcomer, state_of, with_opened}
use Rattle.pc_calls.proofs.StepCases.{is_asking, is_enter, step-gives}
use Rattle.pc_calls.proofs.StepLaws.{change-beside, change-reads, length-change, opened_at, opened_counts}

numbers-more : (first count : ℕ) → numbers_from first count ++ (first + count) ∷ [] ≡ numbers_from first (suc count)
numbers-more first zero = ap (λ n. n ∷ []) (omega arith)
numbers-more first (suc count) = ap (λ n. first ∷ numbers_from (suc first) count ++ n ∷ []) (omega arith) ∙ ap (λ ns. first ∷ ns) (numbers-more (suc first) count)

-- the number after those that were given
next-number : (number given later : ℕ) → number ≡ given + 1 → later ≡ given + 1 → numbers_from 1 given ++ number ∷ [] ≡ numbers_from 1 later
next-number number given later is grew =
    let next : number ≡ 1 + given = omega (arith, is) in
    let last : suc given ≡ later = omega (arith, grew) in
    ap (λ n. numbers_from 1 given ++ n ∷ []) next ∙ numbers-more 1 given ∙ ap (numbers_from 1) last

-- the same numbers where none was given
same-numbers : (given : ℕ) (more : List ℕ) → more ≡ [] → numbers_from 1 given ++ more ≡ numbers_from 1 given
same-numbers given more none = ap (λ ns. numbers_from 1 given ++ ns) none ∙ append-nil (numbers_from 1 given)

-- A call gives the numbers that are counted after it and weren't before; then so do the calls of a history.
module _ (given : ℕ → Call → Head → List ℕ) (count : State → ℕ)
    (step : (state : State) (caller : ℕ) (said : Call) → may_make state caller said ≡ true → numbers_from 1 (count state) ++ given caller said (head caller said state) ≡ numbers_from 1 (count (after caller said state))) where
  all-from : (state : State) (entries : List Entry) → IsLegalFrom state entries → numbers_from 1 (count state) ++ all_given given entries ≡ numbers_from 1 (count (after_entries state entries))
  unfolding after_entries IsLegalFrom
  all-from state [] legal = append-nil (numbers_from 1 (count state))
  all-from state (entry ∷ entries) legal =
      sym (append_assoc (numbers_from 1 (count state)) (given entry.caller entry.call entry.head) (all_given given entries))
      ∙ ap (λ h. numbers_from 1 (count state) ++ given entry.caller entry.call h ++ all_given given entries) legal.1
      ∙ ap (λ ns. ns ++ all_given given entries) (step state entry.caller entry.call legal.0)
      ∙ all-from (after_entry state entry) entries legal.2

-- ---- the calls that give no number

none-entered : (caller : ℕ) (said : Call) (told : Head) → is_enter said ≡ false → caller_given caller said told ≡ []
none-entered caller call.Enter told other = absurd cc
none-entered caller call.Open told other = refl
none-entered caller (call.Show session) told other = refl
none-entered caller (call.Choose session variable value) told other = refl
none-entered caller (call.Retract session variable) told other = refl
none-entered caller (call.Bound session cost most) told other = refl
none-entered caller (call.Unbound session cost) told other = refl
none-entered caller (call.Rebase session version dropping) told other = refl
none-entered caller (call.Close session) told other = refl
none-entered caller (call.Publish base file) told other = refl
none-entered caller (call.Reclaim version) told other = refl
none-entered caller call.Versions told other = refl
none-entered caller call.Leave told other = refl

-- a call that changes what a session asks gives no number
record GivesNone (owner caller : ℕ) (said : Call) (told : Head) : Type 0 where
  callers : caller_given caller said told ≡ []
  versions : version_given caller said told ≡ []
  sessions : session_given owner caller said told ≡ []

asking-gives : (owner caller : ℕ) (said : Call) (told : Head) → is_asking said ≡ true → GivesNone owner caller said told
asking-gives owner caller call.Enter told asks = absurd cc
asking-gives owner caller call.Open told asks = absurd cc
asking-gives owner caller (call.Show session) told asks = record { callers = refl; versions = refl; sessions = refl }
asking-gives owner caller (call.Choose session variable value) told asks = record { callers = refl; versions = refl; sessions = refl }
asking-gives owner caller (call.Retract session variable) told asks = record { callers = refl; versions = refl; sessions = refl }
asking-gives owner caller (call.Bound session cost most) told asks = record { callers = refl; versions = refl; sessions = refl }
asking-gives owner caller (call.Unbound session cost) told asks = record { callers = refl; versions = refl; sessions = refl }
asking-gives owner caller (call.Rebase session version dropping) told asks = record { callers = refl; versions = refl; sessions = refl }
asking-gives owner caller (call.Close session) told asks = absurd cc
asking-gives owner caller (call.Publish base file) told asks = absurd cc
asking-gives owner caller (call.Reclaim version) told asks = absurd cc
asking-gives owner caller call.Versions told asks = absurd cc
asking-gives owner caller call.Leave told asks = absurd cc

local-asks : (said : Call) → is_local said ≡ true → is_asking said ≡ true
local-asks call.Enter local = absurd cc
local-asks call.Open local = absurd cc
local-asks (call.Show session) local = refl
local-asks (call.Choose session variable value) local = refl
local-asks (call.Retract session variable) local = refl
local-asks (call.Bound session cost most) local = refl
local-asks (call.Unbound session cost) local = refl
local-asks (call.Rebase session version dropping) local = absurd cc
local-asks (call.Close session) local = absurd cc
local-asks (call.Publish base file) local = absurd cc
local-asks (call.Reclaim version) local = absurd cc
local-asks call.Versions local = absurd cc
local-asks call.Leave local = absurd cc

-- and neither does a refused one
record RefusedGives (owner caller : ℕ) (said : Call) (before : State) (refusal : Outcome) : Type 0 where
  versions : version_given caller said (head_by caller said before (Err refusal)) ≡ []
  sessions : session_given owner caller said (head_by caller said before (Err refusal)) ≡ []

refused-gives : (owner caller : ℕ) (said : Call) (before : State) (refusal : Outcome) → is_done refusal ≡ false → RefusedGives owner caller said before refusal
refused-gives owner caller call.Enter before refusal not_done = record { versions = refl; sessions = refl }
refused-gives owner caller call.Open before refusal not_done = record {
  versions = refl;
  sessions = ap (λ b. cond (caller == owner) (cond b (0 ∷ []) []) []) not_done ∙ both-none (caller == owner);
}
  where
    both-none : (b : Bool) → cond {A = List ℕ} b [] [] ≡ []
    both-none true = refl
    both-none false = refl
refused-gives owner caller (call.Show session) before refusal not_done = record { versions = refl; sessions = refl }
refused-gives owner caller (call.Choose session variable value) before refusal not_done = record { versions = refl; sessions = refl }
refused-gives owner caller (call.Retract session variable) before refusal not_done = record { versions = refl; sessions = refl }
refused-gives owner caller (call.Bound session cost most) before refusal not_done = record { versions = refl; sessions = refl }
refused-gives owner caller (call.Unbound session cost) before refusal not_done = record { versions = refl; sessions = refl }
refused-gives owner caller (call.Rebase session version dropping) before refusal not_done = record { versions = refl; sessions = refl }
refused-gives owner caller (call.Close session) before refusal not_done = record { versions = refl; sessions = refl }
refused-gives owner caller (call.Publish base file) before refusal not_done = record { versions = ap (λ b. cond b (0 ∷ []) []) not_done; sessions = refl }
refused-gives owner caller (call.Reclaim version) before refusal not_done = record { versions = refl; sessions = refl }
refused-gives owner caller call.Versions before refusal not_done = record { versions = refl; sessions = refl }
refused-gives owner caller call.Leave before refusal not_done = record { versions = refl; sessions = refl }

-- ---- callers, versions and sessions

callers-count : (before : State) (caller : ℕ) (said : Call) → may_make before caller said ≡ true → numbers_from 1 (length before.callers) ++ caller_given caller said (head caller said before) ≡ numbers_from 1 (length (after caller said before).callers)
callers-count before caller said may =
    let same : (given : List ℕ) → given ≡ [] → numbers_from 1 (length before.callers) ++ given ≡ numbers_from 1 (length before.callers) = same-numbers (length before.callers) in
    step-gives (λ said result. may_make before caller said ≡ true → numbers_from 1 (length before.callers) ++ caller_given caller said (head_by caller said before result) ≡ numbers_from 1 (length (state_of before result).callers)) caller before
    (λ said refusal other not_done may. same _ (none-entered caller said (head_by caller said before (Err refusal)) other))
    (λ said refusal asking may. same _ (asking-gives 0 caller said (head_by caller said before (Err refusal)) asking).callers)
    (λ may. next-number caller (length before.callers) (length (before.callers ++ newcomer ∷ [])) (grind (arith, nat_tests, may)) (length_push before.callers newcomer))
    (λ some may. same [] refl ∙ ap (numbers_from 1) (sym (length-change with_opened before.callers caller)))
    (λ said local number selection may. same _ (asking-gives 0 caller said (head_by caller said before (Ok _)) (local-asks said local)).callers)
    (λ number version dropping carried live may. same [] refl)
    (λ number may. same [] refl) (λ base file may. same [] refl) (λ version other free may. same [] refl) (λ may. same [] refl)
    (λ may. same [] refl ∙ ap (numbers_from 1) (sym (length-change gone before.callers caller)))
    said may

versions-count : (before : State) (caller : ℕ) (said : Call) → may_make before caller said ≡ true → numbers_from 1 (current before) ++ version_given caller said (head caller said before) ≡ numbers_from 1 (current (after caller said before))
versions-count before caller said may =
    let same : (given : List ℕ) → given ≡ [] → numbers_from 1 (current before) ++ given ≡ numbers_from 1 (current before) = same-numbers (current before) in
    step-gives (λ said result. numbers_from 1 (current before) ++ version_given caller said (head_by caller said before result) ≡ numbers_from 1 (current (state_of before result))) caller before
    (λ said refusal other not_done. same _ (refused-gives 0 caller said before refusal not_done).versions)
    (λ said refusal asking. same _ (asking-gives 0 caller said (head_by caller said before (Err refusal)) asking).versions)
    (same [] refl) (λ some. same [] refl)
    (λ said local number selection. same _ (asking-gives 0 caller said (head_by caller said before (Ok _)) (local-asks said local)).versions)
    (λ number version dropping carried live. same [] refl)
    (λ number. same [] refl)
    (λ base file. let grew = length_push before.versions (record { file = file; live = true }) in next-number (length (before.versions ++ record { file = file; live = true } ∷ [])) (current before) (length (before.versions ++ record { file = file; live = true } ∷ [])) (omega (arith, grew)) (omega (arith, grew)))
    (λ version other free. same [] refl ∙ ap (numbers_from 1) (sym (length-change _ before.versions version)))
    (same [] refl) (same [] refl)
    said

-- a newcomer has opened none
pub more-opened : (callers : List Caller) (owner : ℕ) → opened_at (callers ++ newcomer ∷ []) owner ≡ opened_at callers owner
more-opened callers zero = refl
more-opened [] (suc zero) = refl
more-opened [] (suc (suc place)) = refl
more-opened (c ∷ callers) (suc zero) = refl
more-opened (c ∷ callers) (suc (suc place)) = more-opened callers (suc place)

-- who leaves has opened as many as before
pub gone-opened : (callers : List Caller) (caller owner : ℕ) → opened_at (change_numbered gone callers caller) owner ≡ opened_at callers owner
gone-opened callers caller owner = ap (λ o. unwrap_or o 0) (change-reads (λ (c : Caller). c.opened) gone (λ c. refl) callers caller owner)

module _ (owner caller : ℕ) (before : State) where
  same : (given : List ℕ) → given ≡ [] → numbers_from 1 (opened_by before owner) ++ given ≡ numbers_from 1 (opened_by before owner)
  same = same-numbers (opened_by before owner)

  -- an open of the owner gives its next number, and another's gives none
  opened-more : may_make before caller call.Open ≡ true → (mine : Bool) → (caller == owner) ≡ mine
      → numbers_from 1 (opened_by before owner) ++ cond mine (opened_at (change_numbered with_opened before.callers caller) caller ∷ []) [] ≡ numbers_from 1 (opened_at (change_numbered with_opened before.callers caller) owner)
  opened-more may true e =
      let same_caller : caller ≡ owner = grind (arith, nat_tests, e) in
      let grew = opened_counts before caller may in
      next-number _ (opened_by before owner) _ (grew ∙ ap (λ c. opened_by before c + 1) same_caller) (ap (opened_at (change_numbered with_opened before.callers caller)) (sym same_caller) ∙ grew ∙ ap (λ c. opened_by before c + 1) same_caller)
  opened-more may false e = same [] refl ∙ ap (λ o. numbers_from 1 (unwrap_or (option_map (λ c. c.opened) o) 0)) (sym (change-beside with_opened before.callers caller owner e))

  entered-opened : may_make before caller call.Enter ≡ true → opened_at (before.callers ++ newcomer ∷ []) owner ≡ opened_by before owner
  entered-opened may = more-opened before.callers owner

  sessions-count : (said : Call) → may_make before caller said ≡ true → numbers_from 1 (opened_by before owner) ++ session_given owner caller said (head caller said before) ≡ numbers_from 1 (opened_by (after caller said before) owner)
  sessions-count =
      step-gives (λ said result. may_make before caller said ≡ true → numbers_from 1 (opened_by before owner) ++ session_given owner caller said (head_by caller said before result) ≡ numbers_from 1 (opened_by (state_of before result) owner)) caller before
      (λ said refusal other not_done may. same _ (refused-gives owner caller said before refusal not_done).sessions)
      (λ said refusal asking may. same _ (asking-gives owner caller said (head_by caller said before (Err refusal)) asking).sessions)
      (λ may. same [] refl ∙ ap (numbers_from 1) (sym (entered-opened may)))
      (λ some may. opened-more may (caller == owner) refl)
      (λ said local number selection may. same _ (asking-gives owner caller said (head_by caller said before (Ok _)) (local-asks said local)).sessions)
      (λ number version dropping carried live may. same [] refl)
      (λ number may. same [] refl) (λ base file may. same [] refl) (λ version other free may. same [] refl) (λ may. same [] refl)
      (λ may. same [] refl ∙ ap (numbers_from 1) (sym (gone-opened before.callers caller owner)))

pub callers_numbered : (history : List Entry) → IsLegal history → entered_callers history ≡ numbers_from 1 (length (state_after history).callers)
callers_numbered history legal = all-from caller_given (λ state. length state.callers) callers-count empty history legal

pub versions_numbered : (history : List Entry) → IsLegal history → published_versions history ≡ numbers_from 1 (current (state_after history))
versions_numbered history legal = all-from version_given current versions-count empty history legal

none-opened : (owner : ℕ) → opened_by empty owner ≡ 0
none-opened zero = refl
none-opened (suc place) = refl

pub sessions_numbered : (owner : ℕ) (history : List Entry) → IsLegal history → opened_sessions owner history ≡ numbers_from 1 (opened_by (state_after history) owner)
sessions_numbered owner history legal =
    ap (λ n. numbers_from 1 n ++ all_given (session_given owner) history) (sym (none-opened owner))
    ∙ all-from (session_given owner) (λ state. opened_by state owner) (λ state caller. sessions-count owner caller state) empty history legal
