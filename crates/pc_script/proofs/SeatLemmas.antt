-- Who may speak, and where a caller's part stands.
use Rattle.std.proofs.Common.{◌≡◌, ◌≢◌, ℕ, zero, suc, ◌+◌, ◌-◌, ◌<◌, ◌≤◌, ◌==◌, ◌&&◌, nat_le, Bool, true, false, not, cond, List, [], ◌∷◌, length, map, Option, Some, None, option_map, slice_index_or, refl, sym, ap, subst, ◌∙◌, arith}
use Rattle.std.specs.Prelude.{unwrap_or}
use Rattle.std.specs.List.{list_any, position}
use Rattle.std.specs.Prelude.{is_some}
use Rattle.std.proofs.lemmas.Bool.{both_ways}
use Rattle.pc_base.proofs.DistinctLemmas.{both_true_parts}
use Rattle.std.proofs.lemmas.Bool.Decides.{nat_tests}
use Rattle.std.proofs.lemmas.List.Quantifiers.{position-Some}
use Rattle.pc_calls.specs.declared.call.Call.TheVariants as call
use Rattle.pc_calls.specs.declared.entry.Entry.{Entry}
use Rattle.pc_calls.specs.History.{entry_of, is_present}
use Rattle.pc_calls.specs.State.{Caller, State, numbered}
use Rattle.pc_book.specs.Book.{history_of, next_caller, state_of_book}
use Rattle.pc_book.specs.Own.{OwnPart}
use Rattle.pc_book.proofs.EnterLemmas.{present-entered}
use Rattle.pc_book.proofs.Places.{none-passes}
use Rattle.pc_script.specs.declared.callers.TheConstants.{MOST_CALLERS}
use Rattle.pc_script.specs.Present.{ArePresent, IsSeated, has_number, number_of}
use Rattle.pc_script.specs.Request.{has_left, may_speak}
use Rattle.pc_script.specs.ScriptHistory.{entering, present_from}
use Rattle.pc_script.proofs.LegalScripts.{speaker, stays-present, there}
use Rattle.pc_script.proofs.PresentLemmas.{listed}
use Rattle.pc_script.proofs.StandLemmas.{settled-state}

nowhere-any : (p : ℕ → Bool) (xs : List OwnPart) → ((k : ℕ) (d : OwnPart) → k < length xs → p (slice_index_or xs k d).number ≡ false) → list_any p (map number_of xs) ≡ false
nowhere-any p [] nowhere = refl
nowhere-any p (x ∷ xs) nowhere = let e : p x.number ≡ false = nowhere 0 x (omega arith) in rw e (nowhere-any p xs (λ k d inside. nowhere (suc k) d (omega (arith, inside))))

-- the caller that left is no present one
left-absent : (found : Option Caller) → unwrap_or (option_map (λ (c : Caller). not c.left) found) false ≡ true → unwrap_or (option_map (λ (c : Caller). c.left) found) false ≡ false
left-absent None e = absurd cc
left-absent (Some c) e = flip c.left e
  where
    flip : (b : Bool) → not b ≡ true → b ≡ false
    flip true e = absurd cc
    flip false e = refl

-- nobody has a number beyond all
past-none : (xs : List Caller) (number : ℕ) → length xs < number → numbered xs number ≡ None
past-none xs zero past = absurd (omega (arith, past))
past-none [] (suc place) past = refl
past-none (x ∷ xs) (suc zero) past = absurd (omega (arith, past))
past-none (x ∷ xs) (suc (suc place)) past = past-none xs (suc place) (omega (arith, past))

module _ (blocks : List (List Entry)) (present : List OwnPart) (are : ArePresent blocks present) (caller : ℕ) where
  abbrev state : State
  state = state_of_book blocks

  -- a part with the number stands at a place
  module _ (place : ℕ) (found : position (has_number caller) present ≡ Some place) where
    found-inside : place < length present
    found-inside = (position-Some (has_number caller) present place (nobody caller) found).0
      where
        nobody : ℕ → OwnPart
        nobody number = record { number = number; opened = 0; sessions = []; pending = [] }

    found-number : (d : OwnPart) → (slice_index_or present place d).number ≡ caller
    found-number d = let passes = (position-Some (has_number caller) present place d found).1 in grind (arith, nat_tests, passes)

    pub found-seated : IsSeated caller place present
    found-seated = record { inside = found-inside; number = found-number }

    found-present : is_present state caller ≡ true
    found-present =
        let d : OwnPart = record { number = caller; opened = 0; sessions = []; pending = [] } in
        let own = slice_index_or present place d in
        subst (λ (n : ℕ). is_present state n ≡ true) (found-number d)
        (subst (λ (s : State). is_present s own.number ≡ true) (settled-state (history_of blocks) own (are.settled place d found-inside)) (are.stand place d found-inside).entered)

    -- it has entered before
    pub found-entering : entering state caller ≡ []
    found-entering =
        let inside = present-entered state caller found-present in
        let e : nat_le caller (length state.callers) ≡ true = grind (arith, nat_tests, inside) in
        ap (λ (b : Bool). cond b [] (entry_of state caller call.Enter ∷ [])) e

    pub found-speaks : nat_le 1 caller ≡ true → nat_le caller MOST_CALLERS ≡ true → may_speak state caller ≡ true
    found-speaks some few =
        let inside = present-entered state caller found-present in
        let next : nat_le caller (length state.callers + 1) ≡ true = grind (arith, nat_tests, inside) in
        let stays : has_left state caller ≡ false = left-absent (numbered state.callers caller) found-present in
        rw (some, few, next, stays) refl

  -- none stands anywhere
  module _ (none : position (has_number caller) present ≡ None) where
    absent : (m : ℕ) → caller ≡ suc m → is_present state caller ≡ false
    absent m is =
        let nowhere = nowhere-any (λ (n : ℕ). n == caller) present (none-passes (has_number caller) present none) in
        let same : caller ≡ 1 + m = omega (arith, is) in
        ap (λ (n : ℕ). unwrap_or (option_map (λ (c : Caller). not c.left) (numbered state.callers n)) false) is
        ∙ sym (listed 1 state.callers m)
        ∙ ap (λ (n : ℕ). list_any (λ (x : ℕ). x == n) (present_from 1 state.callers)) (sym same)
        ∙ ap (list_any (λ (x : ℕ). x == caller)) (sym are.numbers) ∙ nowhere

    -- whoever may speak then is the next to enter
    pub none-next : may_speak state caller ≡ true → caller ≡ next_caller blocks
    none-next may =
        let s = speaker state caller may in
        by (nat_le caller (length state.callers)) refl s.some s.next s.stays
      where
        by : (inside : Bool) → nat_le caller (length state.callers) ≡ inside → 1 ≤ caller → caller ≤ length state.callers + 1 → has_left state caller ≡ false → caller ≡ next_caller blocks
        by false e some next stays = grind (arith, nat_tests, e, next)
        by true e some next stays =
            let c = there state.callers caller some (grind (arith, nat_tests, e)) in
            absurd (both_ways (is_present state caller) (absent (caller - 1) (omega (arith, some))) (stays-present (numbered state.callers caller) c.0 c.1 stays))

    pub none-entering : may_speak state caller ≡ true → entering state caller ≡ entry_of state (next_caller blocks) call.Enter ∷ []
    none-entering may =
        let next = none-next may in
        let e : nat_le caller (length state.callers) ≡ false = grind (arith, nat_tests, next) in
        ap (λ (b : Bool). cond b [] (entry_of state caller call.Enter ∷ [])) e ∙ ap (λ (n : ℕ). entry_of state n call.Enter ∷ []) next

    pub none-speaks : caller ≢ next_caller blocks → may_speak state caller ≡ false
    none-speaks other = by (may_speak state caller) refl
      where
        by : (may : Bool) → may_speak state caller ≡ may → may_speak state caller ≡ false
        by true e = absurd (other (none-next e))
        by false e = e

  -- the next to enter may speak
  pub next-speaks : caller ≡ next_caller blocks → nat_le 1 caller ≡ true → nat_le caller MOST_CALLERS ≡ true → may_speak state caller ≡ true
  next-speaks next some few =
      let last : nat_le caller (length state.callers + 1) ≡ true = grind (arith, nat_tests, next) in
      let stays : has_left state caller ≡ false = ap (λ (c : Option Caller). unwrap_or (option_map (λ (c : Caller). c.left) c) false) (past-none state.callers caller (omega (arith, next))) in
      rw (some, few, last, stays) refl

-- so whoever isn't the next may speak exactly where its part stands somewhere
pub some-or-none-speaks : (blocks : List (List Entry)) (present : List OwnPart) → ArePresent blocks present → (caller : ℕ) → (nat_le 1 caller && nat_le caller MOST_CALLERS) ≡ true → caller ≢ next_caller blocks
    → is_some (position (has_number caller) present) ≡ may_speak (state_of_book blocks) caller
some-or-none-speaks blocks present are caller number other = by (position (has_number caller) present) refl
  where
    parts : (nat_le 1 caller ≡ true) × (nat_le caller MOST_CALLERS ≡ true)
    parts = both_true_parts (nat_le 1 caller) (nat_le caller MOST_CALLERS) number

    by : (found : Option ℕ) → position (has_number caller) present ≡ found → is_some found ≡ may_speak (state_of_book blocks) caller
    by (Some place) e = sym (found-speaks blocks present are caller place e parts.0 parts.1)
    by None e = sym (none-speaks blocks present are caller e other)

pub next-may-speak : (blocks : List (List Entry)) (present : List OwnPart) → ArePresent blocks present → (caller : ℕ) → (nat_le 1 caller && nat_le caller MOST_CALLERS) ≡ true → caller ≡ next_caller blocks → true ≡ may_speak (state_of_book blocks) caller
next-may-speak blocks present are caller number next =
    let parts = both_true_parts (nat_le 1 caller) (nat_le caller MOST_CALLERS) number in
    sym (next-speaks blocks present are caller next parts.0 parts.1)

-- no other number may speak
pub no-number : (state : State) (caller : ℕ) → (nat_le 1 caller && nat_le caller MOST_CALLERS) ≡ false → may_speak state caller ≡ false
no-number state caller none = by (nat_le 1 caller) (nat_le caller MOST_CALLERS) none
  where
    by : (some few : Bool) → (some && few) ≡ false → (some && few && nat_le caller (length state.callers + 1) && not (has_left state caller)) ≡ false
    by true true e = absurd cc
    by true false e = refl
    by false few e = refl
