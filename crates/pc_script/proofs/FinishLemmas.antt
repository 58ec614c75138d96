-- All that are present leave, in the order of their numbers.
use Rattle.std.proofs.Common.{◌≡◌, ℕ, zero, suc, ◌+◌, ◌-◌, Bool, true, false, if◌then◌else◌, List, [], ◌∷◌, ◌++◌, length, map, refl, sym, ap, ◌∙◌, arith, append_assoc}
use Rattle.std.proofs.lemmas.List.{append-nil}
use Rattle.pc_calls.specs.declared.call.Call.TheVariants as call
use Rattle.pc_calls.specs.declared.entry.Entry.{Entry}
use Rattle.pc_calls.specs.History.{entry_of}
use Rattle.pc_calls.specs.State.{Caller, State}
use Rattle.pc_calls.specs.Step.{after, change_numbered, gone}
use Rattle.pc_book.specs.Book.{history_of, state_of_book, with_entry}
use Rattle.pc_book.specs.Own.{OwnPart}
use Rattle.pc_script.specs.Present.{ArePresent, number_of}
use Rattle.pc_script.specs.ScriptHistory.{leaving, present_from, with_leaves}
use Rattle.pc_script.proofs.CallLemmas.{all-ready, gone-history, gone-present, gone-state}
use Rattle.pc_script.proofs.PresentLemmas.{low-first}

-- nobody is left to leave
nobody-leaves : (state : State) (k : ℕ) (callers : List Caller) → present_from k callers ≡ [] → leaving state k callers ≡ []
unfolding leaving
nobody-leaves state k [] none = refl
nobody-leaves state k (c ∷ callers) none = by c.left none (λ later. nobody-leaves state (k + 1) callers later)
  where
    by : (left : Bool) → (if left then present_from (k + 1) callers else k ∷ present_from (k + 1) callers) ≡ [] → (present_from (k + 1) callers ≡ [] → leaving state (k + 1) callers ≡ [])
        → (if left then leaving state (k + 1) callers else entry_of state k call.Leave ∷ leaving (after k call.Leave state) (k + 1) callers) ≡ []
    by true none rest = rest none
    by false none rest = absurd cc

-- the first that is present leaves first
first-leaves : (state : State) (k m : ℕ) (callers : List Caller) (number : ℕ) (numbers : List ℕ) → present_from k callers ≡ number ∷ numbers → number ≡ k + m
    → leaving state k callers ≡ entry_of state number call.Leave ∷ leaving (after number call.Leave state) k (change_numbered gone callers (suc m))
unfolding leaving
first-leaves state k m [] number numbers are is = absurd cc
first-leaves state k m (c ∷ callers) number numbers are is = by c.left refl m are is (λ n later at. first-leaves state (k + 1) n callers number numbers later at)
  where
    by : (left : Bool) → c.left ≡ left → (m : ℕ) → (if left then present_from (k + 1) callers else k ∷ present_from (k + 1) callers) ≡ number ∷ numbers → number ≡ k + m
        → ((n : ℕ) → present_from (k + 1) callers ≡ number ∷ numbers → number ≡ (k + 1) + n → leaving state (k + 1) callers ≡ entry_of state number call.Leave ∷ leaving (after number call.Leave state) (k + 1) (change_numbered gone callers (suc n)))
        → (if left then leaving state (k + 1) callers else entry_of state k call.Leave ∷ leaving (after k call.Leave state) (k + 1) callers) ≡ entry_of state number call.Leave ∷ leaving (after number call.Leave state) k (change_numbered gone (c ∷ callers) (suc m))
    by true e zero are is rest = absurd (omega (arith, is, low-first (k + 1) callers number numbers are))
    by true e (suc m) are is rest =
        rest m are (omega (arith, is))
        ∙ ap (λ (left : Bool). entry_of state number call.Leave ∷ (if left then leaving (after number call.Leave state) (k + 1) (change_numbered gone callers (suc m)) else entry_of (after number call.Leave state) k call.Leave ∷ leaving (after k call.Leave (after number call.Leave state)) (k + 1) (change_numbered gone callers (suc m)))) (sym e)
    by false e zero are is rest = let same : k ≡ number = omega (arith, is) in ap (λ (n : ℕ). entry_of state n call.Leave ∷ leaving (after n call.Leave state) (k + 1) callers) same
    by false e (suc m) are is rest = let same : k ≡ number = cc in absurd (omega (arith, is, same))

-- so many of a history's callers have left that these are still present
pub record AreLeft (history : List Entry) (blocks : List (List Entry)) (rest : List OwnPart) : Type 0 where
  pub present : ArePresent blocks rest
  pub leaves : with_leaves (history_of blocks) ≡ with_leaves history

pub none-left : (blocks : List (List Entry)) (rest : List OwnPart) → ArePresent blocks rest → AreLeft (history_of blocks) blocks rest
none-left blocks rest present = record { present = present; leaves = refl }

pub one-left : (history : List Entry) (blocks later : List (List Entry)) (own : OwnPart) (rest : List OwnPart) → AreLeft history blocks (own ∷ rest) → later ≡ with_entry blocks own call.Leave → AreLeft history later rest
one-left history blocks later own rest left appended =
    let present = left.present in
    let ready = all-ready blocks (own ∷ rest) 0 present (omega arith) in
    let state = state_of_book blocks in
    let low = low-first 1 state.callers own.number (map number_of rest) (sym present.numbers) in
    let first = first-leaves state 1 (own.number - 1) state.callers own.number (map number_of rest) (sym present.numbers) (omega (arith, low)) in
    let number : suc (own.number - 1) ≡ own.number = omega (arith, low) in
    let recorded = gone-history blocks later (own ∷ rest) 0 own own ready refl appended (present.settled 0 own (omega arith)) in
    record {
      present = gone-present blocks later (own ∷ rest) 0 own own ready refl appended;
      leaves =
          ap (λ (es : List Entry). es ++ leaving (state_of_book later) 1 (state_of_book later).callers) recorded
          ∙ ap (λ (s : State). (history_of blocks ++ entry_of state own.number call.Leave ∷ []) ++ leaving s 1 s.callers) (gone-state blocks later (own ∷ rest) 0 own own ready refl appended (present.settled 0 own (omega arith)))
          ∙ append_assoc (history_of blocks) (entry_of state own.number call.Leave ∷ []) (leaving (after own.number call.Leave state) 1 (change_numbered gone state.callers own.number))
          ∙ ap (λ (n : ℕ). history_of blocks ++ entry_of state own.number call.Leave ∷ leaving (after own.number call.Leave state) 1 (change_numbered gone state.callers n)) (sym number)
          ∙ ap (λ (es : List Entry). history_of blocks ++ es) (sym first)
          ∙ left.leaves;
    }

pub all-left : (history : List Entry) (blocks : List (List Entry)) (rest : List OwnPart) → rest ≡ [] → AreLeft history blocks rest → history_of blocks ≡ with_leaves history
all-left history blocks rest none left =
    let numbers : present_from 1 (state_of_book blocks).callers ≡ [] = sym left.present.numbers ∙ ap (map number_of) none in
    sym (append-nil (history_of blocks)) ∙ ap (λ (es : List Entry). history_of blocks ++ es) (sym (nobody-leaves (state_of_book blocks) 1 (state_of_book blocks).callers numbers)) ∙ left.leaves

pub no_length : {A : Type 0} (xs : List A) → length xs ≡ 0 → xs ≡ []
no_length [] none = refl
no_length (x ∷ xs) none = absurd (omega (arith, none))
