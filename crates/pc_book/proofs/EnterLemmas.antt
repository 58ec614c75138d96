-- A caller enters.
use Rattle.std.proofs.Common.{◌≡◌, ℕ, zero, suc, ◌+◌, ◌<◌, ◌≤◌, ◌==◌, Bool, true, false, not, cond, List, [], ◌∷◌, ◌++◌, length, count_by, Option, Some, None, option_map, refl, sym, subst, ap, ◌∙◌, arith}
use Rattle.std.specs.Prelude.{unwrap_or}
use Rattle.std.proofs.lemmas.Bool.Decides.{nat_tests}
use Rattle.std.proofs.lemmas.List.{append-nil, length_push}
use Rattle.std.proofs.lemmas.List.Elements.{All-nil}
use Rattle.std.proofs.lemmas.List.Sums.{sum_by-cons}
use Rattle.pc_calls.specs.declared.call.Call.{Call}
use Rattle.pc_calls.specs.declared.call.Call.TheVariants as call
use Rattle.pc_calls.specs.declared.entry.Entry.{Entry}
use Rattle.pc_calls.specs.History.{IsLegal, IsLegalFrom, after_entries, after_entry, entry_of, is_present, made, may_make, state_after}
use Rattle.pc_calls.specs.OwnedSessions.{sessions_of}
use Rattle.pc_calls.specs.State.{Caller, State, empty, file_of, numbered}
use Rattle.pc_calls.specs.Step.{after, gone, newcomer, state_of, with_opened}
use Rattle.pc_calls.proofs.HistoryLemmas.{after_entries-append, legal-append, numbered-next}
use Rattle.pc_calls.proofs.OthersLaws.{others_leave_sessions}
use Rattle.pc_calls.proofs.StepCases.{step-gives}
use Rattle.pc_calls.proofs.StepLaws.{length-change}
use Rattle.pc_book.specs.Book.{IsBook, history_of, next_caller, present_callers, state_of_book}
use Rattle.pc_book.specs.Own.{IsLocalOf, IsPartOf, OwnPart, StandsAfter}
use Rattle.pc_book.specs.Shelves.{Shelved}
use Rattle.pc_book.proofs.BookLemmas.{book-more, few-more, history-more}

-- ---- every caller of a legal history is among those that entered

-- who makes a call has entered
entered-by : (callers : List Caller) (caller : ℕ) (found : Option Caller) → numbered callers caller ≡ found → unwrap_or (option_map (λ c. not c.left) found) false ≡ true → caller ≤ length callers
entered-by callers caller None is present = absurd cc
entered-by callers zero (Some c) is present = absurd cc
entered-by [] (suc place) (Some c) is present = absurd cc
entered-by (d ∷ callers) (suc zero) (Some c) is present = omega arith
entered-by (d ∷ callers) (suc (suc place)) (Some c) is present = let rest = entered-by callers (suc place) (Some c) is present in omega (arith, rest)

pub present-entered : (state : State) (caller : ℕ) → is_present state caller ≡ true → caller ≤ length state.callers
present-entered state caller present = entered-by state.callers caller (numbered state.callers caller) refl present

-- no call takes a caller away
callers-grow : (state : State) (caller : ℕ) (said : Call) → length state.callers ≤ length (after caller said state).callers
callers-grow state caller =
    let same : length state.callers ≤ length state.callers = omega arith in
    step-gives (λ said result. length state.callers ≤ length (state_of state result).callers) caller state
    (λ said refusal other not_done. same) (λ said refusal asking. same)
    (omega (arith, length_push state.callers newcomer)) (λ some. omega (arith, length-change with_opened state.callers caller))
    (λ said local number selection. same) (λ number version dropping carried live. same) (λ number. same) (λ base file. same) (λ version other free. same) same
    (omega (arith, length-change gone state.callers caller))

grown : (state : State) (caller : ℕ) (said : Call) → caller ≤ length state.callers → caller ≤ length (after caller said state).callers
grown state caller said known = omega (arith, known, callers-grow state caller said)

caller-known : (state : State) (caller : ℕ) (said : Call) → may_make state caller said ≡ true → caller ≤ length (after caller said state).callers
caller-known state caller call.Enter may = let next : caller ≡ length state.callers + 1 = grind (arith, nat_tests, may) in omega (arith, next, length_push state.callers newcomer)
caller-known state caller call.Open may = grown state caller call.Open (present-entered state caller may)
caller-known state caller (call.Show session) may = grown state caller (call.Show session) (present-entered state caller may)
caller-known state caller (call.Choose session variable value) may = grown state caller (call.Choose session variable value) (present-entered state caller may)
caller-known state caller (call.Retract session variable) may = grown state caller (call.Retract session variable) (present-entered state caller may)
caller-known state caller (call.Bound session cost most) may = grown state caller (call.Bound session cost most) (present-entered state caller may)
caller-known state caller (call.Unbound session cost) may = grown state caller (call.Unbound session cost) (present-entered state caller may)
caller-known state caller (call.Rebase session version dropping) may = grown state caller (call.Rebase session version dropping) (present-entered state caller may)
caller-known state caller (call.Close session) may = grown state caller (call.Close session) (present-entered state caller may)
caller-known state caller (call.Publish base file) may = grown state caller (call.Publish base file) (present-entered state caller may)
caller-known state caller (call.Reclaim version) may = grown state caller (call.Reclaim version) (present-entered state caller may)
caller-known state caller call.Versions may = grown state caller call.Versions (present-entered state caller may)
caller-known state caller call.Leave may = grown state caller call.Leave (present-entered state caller may)

-- callers never fall from the list, entry by entry
entries-grow : (state : State) (entries : List Entry) → length state.callers ≤ length (after_entries state entries).callers
unfolding after_entries
entries-grow state [] = omega arith
entries-grow state (entry ∷ entries) = omega (arith, callers-grow state entry.caller entry.call, entries-grow (after_entry state entry) entries)

-- who hasn't entered made none of the entries
none-made : (number : ℕ) (state : State) (entries : List Entry) → IsLegalFrom state entries → length (after_entries state entries).callers < number → made entries number ≡ []
unfolding after_entries IsLegalFrom
none-made number state [] legal past = refl
none-made number state (entry ∷ entries) legal past =
    let known : entry.caller ≤ length (after_entry state entry).callers = caller-known state entry.caller entry.call legal.0 in
    let grows = entries-grow (after_entry state entry) entries in
    let other : (entry.caller == number) ≡ false = grind (arith, nat_tests, known, grows, past) in
    ap (λ b. cond b (entry ∷ made entries number) (made entries number)) other ∙ none-made number (after_entry state entry) entries legal.2 past

-- one more passes a test
count-push : {A : Type 0} (test : A → Bool) (xs : List A) (x : A) → test x ≡ true → count_by test (xs ++ x ∷ []) ≡ count_by test xs + 1
count-push test [] x passes = sum_by-cons (λ y. cond (test y) 1 0) x [] ∙ ap (λ b. cond b 1 0 + 0) passes
count-push test (y ∷ xs) x passes =
    let counted = sum_by-cons (λ z. cond (test z) 1 0) y (xs ++ x ∷ []) in
    let before = sum_by-cons (λ z. cond (test z) 1 0) y xs in
    omega (arith, counted, before, count-push test xs x passes)

-- ---- the book after an enter

-- the journal with the block of an enter
abbrev pub entered-blocks : List (List Entry) → List (List Entry)
entered-blocks blocks = blocks ++ (entry_of (state_of_book blocks) (next_caller blocks) call.Enter ∷ []) ∷ []

module _ (blocks : List (List Entry)) where
  abbrev here : State
  here = state_of_book blocks

  abbrev next : ℕ
  next = next_caller blocks

  abbrev entered : State
  entered = after (next_caller blocks) call.Enter (state_of_book blocks)

  abbrev entry : Entry
  entry = entry_of (state_of_book blocks) (next_caller blocks) call.Enter

  may-enter : may_make (state_of_book blocks) (next_caller blocks) call.Enter ≡ true
  may-enter = grind (arith, nat_tests)

  legal-entered : IsLegal (history_of blocks) → IsLegal (history_of blocks ++ entry ∷ [])
  unfolding IsLegalFrom
  legal-entered legal = legal-append empty (history_of blocks) (entry ∷ []) legal (may-enter, refl, tt)

  state-entered : state_after (history_of blocks ++ entry ∷ []) ≡ entered
  unfolding after_entries
  state-entered = after_entries-append empty (history_of blocks) (entry ∷ [])

  present-more : present_callers entered ≡ present_callers (state_of_book blocks) + 1
  present-more = count-push (λ (c : Caller). not c.left) (state_of_book blocks).callers newcomer refl

  pub book-entered : (shelves : List Shelved) (entered_now present now : ℕ) → IsBook blocks shelves entered_now present now → IsBook (blocks ++ (entry ∷ []) ∷ []) shelves (entered_now + 1) (present + 1) now
  book-entered shelves entered_now present now book =
      book-more blocks (entry ∷ []) entered (legal-entered book.legal) state-entered shelves (entered_now + 1) (present + 1) now
      (record {
        shelves_are = book.kept.shelves_are;
        entered_are = omega (arith, book.kept.entered_are, length_push (state_of_book blocks).callers newcomer);
        present_are = omega (arith, book.kept.present_are, present-more);
        current_is = book.kept.current_is;
      })
      (few-more (length blocks) next (state_of_book blocks) book.few call.Enter)

  -- the newcomer has no session
  no-sessions : IsLegal (history_of blocks) → sessions_of entered next ≡ []
  unfolding after_entries
  no-sessions legal = others_leave_sessions [] (history_of blocks) next legal (none-made next empty (history_of blocks) legal (omega arith))

  pub enters : IsLegal (history_of blocks) → (own : OwnPart) → own ≡ record { number = next_caller blocks; opened = 0; sessions = []; pending = [] } → StandsAfter (history_of (blocks ++ (entry ∷ []) ∷ [])) own
  enters legal own is =
      let number : ℕ = next_caller blocks in
      let history_is : history_of (blocks ++ (entry ∷ []) ∷ []) ++ [] ≡ history_of blocks ++ entry ∷ [] = append-nil (history_of (blocks ++ (entry ∷ []) ∷ [])) ∙ history-more blocks (entry ∷ []) in
      let state_is : state_after (history_of (blocks ++ (entry ∷ []) ∷ []) ++ []) ≡ entered = ap state_after history_is ∙ state-entered in
      let found : numbered ((state_of_book blocks).callers ++ newcomer ∷ []) number ≡ Some newcomer = numbered-next (state_of_book blocks).callers [] newcomer number refl in
      subst (StandsAfter (history_of (blocks ++ (entry ∷ []) ∷ []))) (sym is) (record {
        entered = ap (λ s. is_present s number) state_is ∙ ap (λ o. unwrap_or (option_map (λ (c : Caller). not c.left) o) false) found;
        local = All-nil (IsLocalOf number);
        legal = subst IsLegal (sym history_is) (legal-entered legal);
        part = subst (λ s. IsPartOf s (record { number = number; opened = 0; sessions = []; pending = [] })) (sym state_is) (record {
          sessions = no-sessions legal;
          files = All-nil (λ v. file_of entered v.version ≡ Some v.file);
          opened = ap (λ o. unwrap_or (option_map (λ (c : Caller). c.opened) o) 0) found;
        });
      })
