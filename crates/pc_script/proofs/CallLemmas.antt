-- Whoever is present stays present while one of them makes a call; a caller enters or leaves, and all leave in the end.
use Rattle.std.proofs.Common.{◌≡◌, ◌≢◌, ℕ, zero, suc, ◌+◌, ◌-◌, ◌<◌, ◌≤◌, ◌==◌, nat_lt, Bool, true, false, cond, List, [], ◌∷◌, ◌++◌, length, map, All, Result, Ok, Err, IfOk, OnErr, slice_index_or, slice_set, refl, sym, ap, subst, ◌∙◌, arith, append_assoc, length-append}
use Rattle.std.specs.Prelude.{is_err}
use Rattle.pc_base.specs.declared.memory.NoMemory.{NoMemory}
use Rattle.std.specs.List.{remove}
use Rattle.std.proofs.lemmas.Bool.Decides.{nat_tests}
use Rattle.std.proofs.lemmas.List.{get_or-map, get_or-set_same, get_or-set_other, length-map, length-set, map-append}
use Rattle.std.proofs.lemmas.List.Edits.{get_or-remove_above, get_or-remove_below, length-remove}
use Rattle.std.proofs.Math.Seq.{map-set_same}
use Rattle.pc_calls.specs.declared.call.Call.{Call}
use Rattle.pc_calls.specs.declared.call.Call.TheVariants as call
use Rattle.pc_calls.specs.declared.entry.Entry.{Entry}
use Rattle.pc_calls.specs.declared.reply.Reply.{Reply}
use Rattle.pc_calls.specs.Heads as heads
use Rattle.pc_calls.specs.History.{IsLegal, entry_of, is_present, made, state_after}
use Rattle.pc_calls.specs.State.{Caller, State, empty}
use Rattle.pc_calls.specs.Step.{after, change_numbered, gone, state_of, with_opened}
use Rattle.pc_calls.proofs.HistoryLemmas.{after_entries-append, legal-append}
use Rattle.pc_calls.proofs.StepCases.{step-gives}
use Rattle.pc_book.specs.Book.{history_of, next_caller, state_of_book, with_entry}
use Rattle.pc_book.specs.Own.{OwnPart, StandsAfter, state_with}
use Rattle.pc_book.proofs.BookLemmas.{history-more, pending-alike}
use Rattle.pc_book.proofs.EnterLemmas.{present-entered}
use Rattle.pc_script.specs.Present.{ArePresent, AreReady, IsMadeBy, IsRecorded, IsSeated, IsSettled, IsSettledAt, Makes, StaysWith, number_of}
use Rattle.pc_script.specs.Script.{entered}
use Rattle.pc_script.specs.ScriptHistory.{entering, present_from, those_present}
use Rattle.pc_script.specs.Spoken.{IsStaying}
use Rattle.pc_script.proofs.LegalScripts.{one-legal}
use Rattle.pc_script.proofs.PresentLemmas.{low-at, number-entered, number-gone, numbers-stay, other-number, remove-map}
use Rattle.pc_script.proofs.ScriptTexts.{entering-state, one-entry}
use Rattle.pc_script.proofs.StandLemmas.{others-stand, settled-legal, settled-state}

-- nobody enters or leaves by a call of one that stays
staying : (caller : ℕ) (before : State) (said : Call) → IsStaying said → those_present (after caller said before) ≡ those_present before
staying caller before =
    step-gives (λ said result. IsStaying said → those_present (state_of before result) ≡ those_present before) caller before
    (λ said refusal is not_done stays. refl) (λ said refusal asking stays. refl)
    (λ never. absurd never)
    (λ some stays. numbers-stay with_opened (λ c. refl) 1 before.callers caller)
    (λ said local number selection stays. refl)
    (λ number version dropping carried live stays. refl)
    (λ number stays. refl)
    (λ base file stays. refl)
    (λ version is free stays. refl)
    (λ stays. refl)
    (λ never. absurd never)

-- the state after an entry more
state-more : (blocks later : List (List Entry)) (entries : List Entry) (entry : Entry) → history_of later ≡ (history_of blocks ++ entries) ++ entry ∷ [] → state_of_book later ≡ after entry.caller entry.call (state_after (history_of blocks ++ entries))
state-more blocks later entries entry is =
    ap state_after is ∙ after_entries-append empty (history_of blocks ++ entries) (entry ∷ []) ∙ one-entry (state_after (history_of blocks ++ entries)) entry

state-one : (blocks later : List (List Entry)) (entry : Entry) → history_of later ≡ history_of blocks ++ entry ∷ [] → state_of_book later ≡ after entry.caller entry.call (state_of_book blocks)
state-one blocks later entry is = ap state_after is ∙ after_entries-append empty (history_of blocks) (entry ∷ []) ∙ one-entry (state_of_book blocks) entry

-- no entry of another's is an owner's
none-made : (caller number : ℕ) (entries : List Entry) → (caller == number) ≡ false → ((i : ℕ) (d : Entry) → i < length entries → (slice_index_or entries i d).caller ≡ caller) → made entries number ≡ []
none-made caller number [] other all = refl
none-made caller number (entry ∷ entries) other all =
    let first : (entry.caller == number) ≡ false = ap (λ (n : ℕ). n == number) (all 0 entry (omega arith)) ∙ other in
    ap (λ (b : Bool). cond b (entry ∷ made entries number) (made entries number)) first ∙ none-made caller number entries other (λ i d inside. all (suc i) d (omega (arith, inside)))

one-made : (caller number : ℕ) (entry : Entry) → entry.caller ≡ caller → (caller == number) ≡ false → made (entry ∷ []) number ≡ []
one-made caller number entry is other = ap (λ (b : Bool). cond b (entry ∷ []) []) (ap (λ (n : ℕ). n == number) is ∙ other)

-- ---- a call of the part at a place

module _ (blocks later : List (List Entry)) (present : List OwnPart) (place : ℕ) (own own_later d : OwnPart) (are : ArePresent blocks present) (inside : place < length present) (is : own ≡ slice_index_or present place d) where
  same-numbers : own_later.number ≡ own.number → map number_of (slice_set present place own_later) ≡ those_present (state_of_book blocks)
  same-numbers same = map-set_same number_of present place own_later d (same ∙ ap number_of is) ∙ are.numbers

  -- what holds of the part now and of the others before holds of all
  all-at : (P : OwnPart → Type 0) → P own_later → ((i : ℕ) (e : OwnPart) → i ≢ place → i < length present → P (slice_index_or present i e)) → All P (slice_set present place own_later)
  all-at P here others i e within = by (i == place) refl
    where
      by : (same : Bool) → (i == place) ≡ same → P (slice_index_or (slice_set present place own_later) i e)
      by true same =
          let at : i ≡ place = grind (arith, nat_tests, same) in
          subst P (sym (ap (λ (j : ℕ). slice_index_or (slice_set present place own_later) j e) at ∙ get_or-set_same present place own_later e inside)) here
      by false same =
          let off : i ≢ place = grind (arith, nat_tests, same) in
          subst P (sym (get_or-set_other present place i own_later e off)) (others i e off (omega (arith, within, length-set present place own_later)))

  other-part : (i : ℕ) (e : OwnPart) → i ≢ place → i < length present → (own.number == (slice_index_or present i e).number) ≡ false
  other-part i e off within =
      ap (λ (o : OwnPart). o.number == (slice_index_or present i e).number) is
      ∙ other-number 1 (state_of_book blocks).callers present are.numbers place i d e (λ same. off (sym same)) inside within

  pub made-present : (said : Call) (reply : Reply) → IsStaying said → Makes said blocks later own own_later reply → ArePresent later (slice_set present place own_later)
  made-present said reply stays makes =
      let entry = entry_of (state_of_book blocks) own.number said in
      let legal : IsLegal (history_of blocks ++ entry ∷ []) = subst IsLegal makes.recorded (settled-legal (history_of later) own_later makes.settled makes.stands) in
      record {
        numbers =
            same-numbers makes.same_number
            ∙ sym (ap those_present (state-one blocks later entry makes.recorded) ∙ staying own.number (state_of_book blocks) said stays);
        stand = all-at (StandsAfter (history_of later)) makes.stands
            (λ i e off within. subst (λ (h : List Entry). StandsAfter h (slice_index_or present i e)) (sym makes.recorded)
            (others-stand (history_of blocks) (entry ∷ []) (slice_index_or present i e) (are.settled i e within) (are.stand i e within) legal (one-made own.number (slice_index_or present i e).number entry refl (other-part i e off within))));
        settled = all-at IsSettled makes.settled (λ i e off within. are.settled i e within);
      }

  -- the call wanted memory, and its entry may wait
  pub stayed-ready : StaysWith blocks later own own_later → AreReady place later (slice_set present place own_later)
  stayed-ready stays = record {
    inside = omega (arith, inside, length-set present place own_later);
    numbers = same-numbers stays.same_number ∙ ap (λ (bs : List (List Entry)). those_present (state_of_book bs)) (sym stays.same);
    stand = all-at (StandsAfter (history_of later)) stays.stands (λ i e off within. subst (λ (bs : List (List Entry)). StandsAfter (history_of bs) (slice_index_or present i e)) (sym stays.same) (are.stand i e within));
    others = λ i off within e. subst IsSettled (sym (get_or-set_other present place i own_later e off)) (are.settled i e (omega (arith, within, length-set present place own_later)));
  }

  pub made-recorded : (said : Call) (reply : Reply) → Makes said blocks later own own_later reply → (caller : ℕ) → IsSeated caller place present → IsRecorded caller said blocks later reply
  made-recorded said reply makes caller seated =
      let same : own.number ≡ caller = ap number_of is ∙ seated.number d in
      record {
        recorded = makes.recorded ∙ ap (λ (n : ℕ). history_of blocks ++ entry_of (state_of_book blocks) n said ∷ []) same;
        answer = makes.answer ∙ ap (λ (n : ℕ). heads.reply n said (state_of_book blocks)) same;
      }

-- nothing waits of anybody
pub all-ready : (blocks : List (List Entry)) (present : List OwnPart) (place : ℕ) → ArePresent blocks present → place < length present → AreReady place blocks present
all-ready blocks present place are inside = record { inside = inside; numbers = are.numbers; stand = are.stand; others = λ i off within e. are.settled i e within }

-- ---- a caller enters

pub entered-present : (blocks later : List (List Entry)) (present : List OwnPart) (own : OwnPart) → ArePresent blocks present → own ≡ record { number = next_caller blocks; opened = 0; sessions = []; pending = [] }
    → later ≡ blocks ++ (entry_of (state_of_book blocks) (next_caller blocks) call.Enter ∷ []) ∷ [] → StandsAfter (history_of later) own → ArePresent later (present ++ own ∷ [])
entered-present blocks later present own are is appended stands =
    let entry = entry_of (state_of_book blocks) (next_caller blocks) call.Enter in
    let callers = (state_of_book blocks).callers in
    let recorded : history_of later ≡ history_of blocks ++ entry ∷ [] = ap history_of appended ∙ history-more blocks (entry ∷ []) in
    let settled : IsSettled own = ap (λ (o : OwnPart). o.pending) is in
    let legal : IsLegal (history_of blocks ++ entry ∷ []) = subst IsLegal recorded (settled-legal (history_of later) own settled stands) in
    let next : own.number ≡ 1 + length callers = omega (arith, ap number_of is) in
    record {
      numbers =
          map-append number_of present (own ∷ [])
          ∙ ap (λ (ns : List ℕ). ns ++ own.number ∷ []) are.numbers ∙ ap (λ (n : ℕ). present_from 1 callers ++ n ∷ []) next
          ∙ sym (ap those_present (state-one blocks later entry recorded) ∙ number-entered 1 callers);
      stand = all-with (StandsAfter (history_of later)) stands
          (λ i e within.
          let there = present-entered (state_of_book blocks) (slice_index_or present i e).number (subst (λ (s : State). is_present s (slice_index_or present i e).number ≡ true) (settled-state (history_of blocks) (slice_index_or present i e) (are.settled i e within)) (are.stand i e within).entered) in
          subst (λ (h : List Entry). StandsAfter h (slice_index_or present i e)) (sym recorded)
          (others-stand (history_of blocks) (entry ∷ []) (slice_index_or present i e) (are.settled i e within) (are.stand i e within) legal
          (one-made (next_caller blocks) (slice_index_or present i e).number entry refl (grind (arith, nat_tests, there)))));
      settled = all-with IsSettled settled (λ i e within. are.settled i e within);
    }
  where
    all-with : (P : OwnPart → Type 0) → P own → ((i : ℕ) (e : OwnPart) → i < length present → P (slice_index_or present i e)) → All P (present ++ own ∷ [])
    all-with P here before i e within = by present i (omega (arith, within, length-append present (own ∷ []))) before
      where
        by : (xs : List OwnPart) (i : ℕ) → i < length xs + 1 → ((j : ℕ) (e : OwnPart) → j < length xs → P (slice_index_or xs j e)) → P (slice_index_or (xs ++ own ∷ []) i e)
        by [] zero within each = here
        by [] (suc i) within each = absurd (omega (arith, within))
        by (x ∷ xs) zero within each = each 0 e (omega arith)
        by (x ∷ xs) (suc i) within each = by xs i (omega (arith, within)) (λ j e lower. each (suc j) e (omega (arith, lower)))

-- ---- a caller leaves

module _ (blocks later : List (List Entry)) (present : List OwnPart) (place : ℕ) (own d : OwnPart) (ready : AreReady place blocks present) (is : own ≡ slice_index_or present place d) (appended : later ≡ with_entry blocks own call.Leave) where
  stands : StandsAfter (history_of blocks) own
  stands = subst (StandsAfter (history_of blocks)) (sym is) (ready.stand place d ready.inside)

  abbrev leave_entry : Entry
  leave_entry = entry_of (state_with (history_of blocks) own) own.number call.Leave

  abbrev last_entries : List Entry
  last_entries = own.pending ++ leave_entry ∷ []

  left-history : history_of later ≡ history_of blocks ++ last_entries
  left-history = ap history_of appended ∙ history-more blocks last_entries

  left-legal : IsLegal (history_of blocks ++ last_entries)
  left-legal =
      subst IsLegal (append_assoc (history_of blocks) own.pending (leave_entry ∷ []))
      (legal-append empty (history_of blocks ++ own.pending) (leave_entry ∷ []) stands.legal (one-legal (state_with (history_of blocks) own) own.number call.Leave stands.entered))

  left-state : state_of_book later ≡ after own.number call.Leave (state_with (history_of blocks) own)
  left-state = state-more blocks later own.pending leave_entry (left-history ∙ sym (append_assoc (history_of blocks) own.pending (leave_entry ∷ [])))

  left-callers : (state_of_book later).callers ≡ change_numbered gone (state_of_book blocks).callers own.number
  left-callers = ap (λ (s : State). s.callers) left-state ∙ ap (λ (cs : List Caller). change_numbered gone cs own.number) (pending-alike (history_of blocks) own stands).callers

  pub gone-numbers : remove (map number_of present) place ≡ those_present (state_of_book later)
  gone-numbers =
      let callers = (state_of_book blocks).callers in
      let at : slice_index_or (present_from 1 callers) place 0 ≡ own.number = ap (λ (ns : List ℕ). slice_index_or ns place 0) (sym ready.numbers) ∙ get_or-map number_of present place d 0 ready.inside ∙ ap number_of (sym is) in
      let size : length (present_from 1 callers) ≡ length present = ap length (sym ready.numbers) ∙ length-map present number_of in
      let low = low-at 1 callers place 0 (omega (arith, size, ready.inside)) in
      let m : ℕ = own.number - 1 in
      let number : suc m ≡ own.number = omega (arith, low, at) in
      ap (λ (ns : List ℕ). remove ns place) ready.numbers
      ∙ number-gone 1 callers place m 0 (omega (arith, size, ready.inside)) (omega (arith, low, at))
      ∙ ap (λ (n : ℕ). present_from 1 (change_numbered gone callers n)) number
      ∙ ap (present_from 1) (sym left-callers)

  made-last : (number : ℕ) → (own.number == number) ≡ false → made last_entries number ≡ []
  made-last number other = none-made own.number number last_entries other (λ i e within. by own.pending i e within (λ j e lower. (stands.local j e lower).0))
    where
      by : (es : List Entry) (i : ℕ) (e : Entry) → i < length (es ++ leave_entry ∷ []) → ((j : ℕ) (e : Entry) → j < length es → (slice_index_or es j e).caller ≡ own.number) → (slice_index_or (es ++ leave_entry ∷ []) i e).caller ≡ own.number
      by [] zero e within each = refl
      by [] (suc i) e within each = absurd (omega (arith, within))
      by (x ∷ es) zero e within each = each 0 e (omega arith)
      by (x ∷ es) (suc i) e within each = by es i e (omega (arith, within)) (λ j e lower. each (suc j) e (omega (arith, lower)))

  pub gone-present : ArePresent later (remove present place)
  gone-present = record {
    numbers = remove-map present place ∙ gone-numbers;
    stand = all-left (StandsAfter (history_of later)) (λ i e off within.
        subst (λ (h : List Entry). StandsAfter h (slice_index_or present i e)) (sym left-history)
        (others-stand (history_of blocks) last_entries (slice_index_or present i e) (ready.others i off within e) (ready.stand i e within) left-legal
        (made-last (slice_index_or present i e).number
        (ap (λ (o : OwnPart). o.number == (slice_index_or present i e).number) is ∙ other-number 1 (state_of_book blocks).callers present ready.numbers place i d e (λ same. off (sym same)) ready.inside within))));
    settled = all-left IsSettled (λ i e off within. ready.others i off within e);
  }
    where
      all-left : (P : OwnPart → Type 0) → ((i : ℕ) (e : OwnPart) → i ≢ place → i < length present → P (slice_index_or present i e)) → All P (remove present place)
      all-left P others i e within = by (nat_lt i place) refl
        where
          by : (below : Bool) → nat_lt i place ≡ below → P (slice_index_or (remove present place) i e)
          by true below =
              let lower : i < place = grind (arith, nat_tests, below) in
              subst P (sym (get_or-remove_below present place e i lower ready.inside)) (others i e (omega (arith, lower)) (omega (arith, lower, ready.inside)))
          by false below =
              let upper : place ≤ i = grind (arith, nat_tests, below) in
              subst P (sym (get_or-remove_above present place e i upper ready.inside)) (others (i + 1) e (omega (arith, upper)) (omega (arith, within, length-remove present place ready.inside)))

  pub gone-history : IsSettled own → history_of later ≡ history_of blocks ++ entry_of (state_of_book blocks) own.number call.Leave ∷ []
  gone-history settled =
      let alone : last_entries ≡ leave_entry ∷ [] = ap (λ (es : List Entry). es ++ leave_entry ∷ []) settled in
      let there : leave_entry ∷ [] ≡ entry_of (state_of_book blocks) own.number call.Leave ∷ [] = ap (λ (s : State). entry_of s own.number call.Leave ∷ []) (settled-state (history_of blocks) own settled) in
      left-history ∙ ap (λ (es : List Entry). history_of blocks ++ es) (alone ∙ there)

  pub gone-state : IsSettled own → state_of_book later ≡ after own.number call.Leave (state_of_book blocks)
  gone-state settled = left-state ∙ ap (after own.number call.Leave) (settled-state (history_of blocks) own settled)

  pub gone-recorded : (reply : Reply) → reply ≡ heads.reply own.number call.Leave (state_with (history_of blocks) own) → IsSettledAt place present → (caller : ℕ) → IsSeated caller place present → IsRecorded caller call.Leave blocks later reply
  gone-recorded reply answer settled_at caller seated =
      let settled : IsSettled own = subst IsSettled (sym is) (settled_at d) in
      let same : own.number ≡ caller = ap number_of is ∙ seated.number d in
      let state = settled-state (history_of blocks) own settled in
      record {
        recorded = gone-history settled ∙ ap (λ (n : ℕ). history_of blocks ++ entry_of (state_of_book blocks) n call.Leave ∷ []) same;
        answer = answer ∙ ap (heads.reply own.number call.Leave) state ∙ ap (λ (n : ℕ). heads.reply n call.Leave (state_of_book blocks)) same;
      }

-- ---- what is given where a call is done, or wanted memory

pub err_given : {A E : Type 0} (P : Type 0) (result : Result A E) → is_err result ≡ true → OnErr result P → P
err_given P (Ok x) e given = absurd cc
err_given P (Err wanted) e given = given

pub ok_given : {A E : Type 0} (P : A → Type 0) (result : Result A E) → is_err result ≡ false → IfOk result P → (x : A) × P x
ok_given P (Ok x) e given = (x, given)
ok_given P (Err wanted) e given = absurd cc

-- a call of a caller that was seated first
pub seated_made : (caller : ℕ) (said : Call) (before between later : List (List Entry)) (reply : Reply) → history_of between ≡ history_of before ++ entering (state_of_book before) caller → IsRecorded caller said between later reply → IsMadeBy caller said before later reply
seated_made caller said before between later reply enters is =
    let state : state_of_book between ≡ entered (state_of_book before) caller =
    ap state_after enters ∙ after_entries-append empty (history_of before) (entering (state_of_book before) caller) ∙ entering-state (state_of_book before) caller in
    let enter = entering (state_of_book before) caller in
    let tail : enter ++ entry_of (state_of_book between) caller said ∷ [] ≡ enter ++ entry_of (entered (state_of_book before) caller) caller said ∷ [] = ap (λ (s : State). enter ++ entry_of s caller said ∷ []) state in
    record {
      recorded =
          is.recorded
          ∙ ap (λ (h : List Entry). h ++ entry_of (state_of_book between) caller said ∷ []) enters
          ∙ append_assoc (history_of before) enter (entry_of (state_of_book between) caller said ∷ [])
          ∙ ap (λ (es : List Entry). history_of before ++ es) tail;
      answer = is.answer ∙ ap (heads.reply caller said) state;
    }

pub seated_ok : (caller place : ℕ) (said : Call) (before between later : List (List Entry)) (present : List OwnPart) (result : Result Reply NoMemory) → history_of between ≡ history_of before ++ entering (state_of_book before) caller → IsSeated caller place present
    → IfOk result (λ reply. (caller : ℕ) → IsSeated caller place present → IsRecorded caller said between later reply) → IfOk result (IsMadeBy caller said before later)
seated_ok caller place said before between later present (Ok reply) enters seated made = seated_made caller said before between later reply enters (made caller seated)
seated_ok caller place said before between later present (Err wanted) enters seated made = tt

-- the part that was put at the end
pub last_seated : (caller place : ℕ) (present : List OwnPart) (own : OwnPart) → place ≡ length present → own.number ≡ caller → IsSeated caller place (present ++ own ∷ [])
last_seated caller place present own is number = record { inside = omega (arith, is, length-append present (own ∷ [])); number = λ d. by present place is d }
  where
    by : (xs : List OwnPart) (at : ℕ) → at ≡ length xs → (d : OwnPart) → (slice_index_or (xs ++ own ∷ []) at d).number ≡ caller
    by [] zero e d = number
    by [] (suc at) e d = absurd (omega (arith, e))
    by (x ∷ xs) zero e d = absurd (omega (arith, e))
    by (x ∷ xs) (suc at) e d = by xs at (omega (arith, e)) d

-- the first that is present
pub first_stands : (blocks : List (List Entry)) (rest later : List OwnPart) (own : OwnPart) → rest ≡ own ∷ later → ArePresent blocks rest → StandsAfter (history_of blocks) own
first_stands blocks rest later own is present = let first : ArePresent blocks (own ∷ later) = subst (ArePresent blocks) is present in first.stand 0 own (omega arith)
