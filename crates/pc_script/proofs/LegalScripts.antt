-- The history of a script is legal.
use Rattle.std.proofs.Common.{◌≡◌, ℕ, zero, suc, ◌+◌, ◌≤◌, ◌&&◌, nat_le, Bool, true, false, not, List, [], ◌∷◌, ◌++◌, length, Option, Some, None, option_map, if◌then◌else◌, slice_get, inl, inr, refl, sym, subst, ap, ◌∙◌, arith, length-append, append_assoc}
use Rattle.std.specs.Prelude.{unwrap_or}
use Rattle.std.proofs.lemmas.Bool.Decides.{nat_tests}
use Rattle.pc_base.specs.Lines.{lines}
use Rattle.pc_base.proofs.DistinctLemmas.{both_true_parts}
use Rattle.pc_calls.specs.declared.call.Call.{Call}
use Rattle.pc_calls.specs.declared.call.Call.TheVariants as call
use Rattle.pc_calls.specs.History.{IsLegal, IsLegalFrom, after_entries, entry_of, is_present, may_make, state_after}
use Rattle.pc_calls.specs.State.{Caller, State, empty, numbered}
use Rattle.pc_calls.specs.Step.{after, change_numbered, gone, newcomer}
use Rattle.pc_calls.proofs.HistoryLemmas.{change-next, legal-append, numbered-next}
use Rattle.pc_conn.specs.declared.item.Item.{Item}
use Rattle.pc_conn.specs.declared.item.Item.TheVariants as item
use Rattle.pc_conn.specs.declared.body.Body.TheVariants.{Cut}
use Rattle.pc_script.specs.declared.item.Said.{Said}
use Rattle.pc_script.specs.declared.callers.TheConstants.{MOST_CALLERS}
use Rattle.pc_script.specs.Request.{has_left, may_speak, said_with}
use Rattle.pc_script.specs.Script.{Script, commanded, publishing, beginning, entered, line_after, said_after}
use Rattle.pc_script.specs.ScriptHistory.{entering, entries_from, item_entries, leaving, said_entries, said_in, script_history, script_items}
use Rattle.pc_script.proofs.ScriptTexts.{entering-state, said-state}
use Rattle.pc_script.specs.Spoken.{IsNoEnter, Speaks}
use Rattle.pc_script.proofs.ScriptTurns.{line-turns, state_at, Turns, Waits}

pub one-legal : (state : State) (caller : ℕ) (one : Call) → may_make state caller one ≡ true → IsLegalFrom state (entry_of state caller one ∷ [])
unfolding IsLegalFrom
one-legal state caller one may = (may, refl, tt)

none-legal : (state : State) → IsLegalFrom state []
unfolding IsLegalFrom
none-legal state = tt

-- a caller that has entered and not left makes any call that is spoken
pub may-any : (state : State) (caller : ℕ) (one : Call) → IsNoEnter one → is_present state caller ≡ true → may_make state caller one ≡ true
may-any state caller call.Enter never present = absurd never
may-any state caller call.Open calls present = present
may-any state caller (call.Show session) calls present = present
may-any state caller (call.Choose session variable value) calls present = present
may-any state caller (call.Retract session variable) calls present = present
may-any state caller (call.Bound session cost most) calls present = present
may-any state caller (call.Unbound session cost) calls present = present
may-any state caller (call.Rebase session version dropping) calls present = present
may-any state caller (call.Close session) calls present = present
may-any state caller (call.Publish base file) calls present = present
may-any state caller (call.Reclaim version) calls present = present
may-any state caller call.Versions calls present = present
may-any state caller call.Leave calls present = present

-- what has a number within a list
pub there : {A : Type 0} (xs : List A) (number : ℕ) → 1 ≤ number → number ≤ length xs → (x : A) × (numbered xs number ≡ Some x)
there xs zero some few = absurd (omega (arith, some))
there xs (suc place) some few = at xs place (omega (arith, few))
  where
    at : {A : Type 0} (xs : List A) (place : ℕ) → place + 1 ≤ length xs → (x : A) × (slice_get xs place ≡ Some x)
    at [] place few = absurd (omega (arith, few))
    at (x ∷ xs) zero few = (x, refl)
    at (x ∷ xs) (suc place) few = at xs place (omega (arith, few))

-- what a caller that may speak is
pub record MaySpeak (state : State) (caller : ℕ) : Type 0 where
  pub some : 1 ≤ caller
  pub next : caller ≤ length state.callers + 1
  pub stays : has_left state caller ≡ false

pub speaker : (state : State) (caller : ℕ) → may_speak state caller ≡ true → MaySpeak state caller
speaker state caller may =
    let last = both_true_parts (nat_le 1 caller && nat_le caller MOST_CALLERS && nat_le caller (length state.callers + 1)) (not (has_left state caller)) may in
    let third = both_true_parts (nat_le 1 caller && nat_le caller MOST_CALLERS) (nat_le caller (length state.callers + 1)) last.0 in
    let first = both_true_parts (nat_le 1 caller) (nat_le caller MOST_CALLERS) third.0 in
    record { some = grind (arith, nat_tests, first.0); next = grind (arith, nat_tests, third.1); stays = not-true (has_left state caller) last.1 }
  where
    not-true : (b : Bool) → not b ≡ true → b ≡ false
    not-true true e = absurd cc
    not-true false e = refl

pub stays-present : (found : Option Caller) (c : Caller) → found ≡ Some c → unwrap_or (option_map (λ (c : Caller). c.left) found) false ≡ false → unwrap_or (option_map (λ (c : Caller). not c.left) found) false ≡ true
stays-present None c is stays = absurd cc
stays-present (Some d) c is stays = ap not stays

-- it is present once it has entered
pub speaker-present : (state : State) (caller : ℕ) → may_speak state caller ≡ true → is_present (entered state caller) caller ≡ true
speaker-present state caller may = by (nat_le caller (length state.callers)) refl
  where
    by : (inside : Bool) → nat_le caller (length state.callers) ≡ inside → is_present (if inside then state else after caller call.Enter state) caller ≡ true
    by true is =
        let s = speaker state caller may in
        let c = there state.callers caller s.some (grind (arith, nat_tests, is)) in
        stays-present (numbered state.callers caller) c.0 c.1 s.stays
    by false is =
        let s = speaker state caller may in
        ap (λ (found : Option Caller). unwrap_or (option_map (λ c. not c.left) found) false) (numbered-next state.callers [] newcomer caller (grind (arith, nat_tests, is, s.next)))

-- and its enter, where it wants one, is legal
pub entering-legal : (state : State) (caller : ℕ) → may_speak state caller ≡ true → IsLegalFrom state (entering state caller)
entering-legal state caller may = by (nat_le caller (length state.callers)) refl
  where
    by : (inside : Bool) → nat_le caller (length state.callers) ≡ inside → IsLegalFrom state (if inside then [] else entry_of state caller call.Enter ∷ [])
    by true is = none-legal state
    by false is = let s = speaker state caller may in one-legal state caller call.Enter (grind (arith, nat_tests, is, s.next))

item-legal : (state : State) (caller : ℕ) (one : Item) → Speaks state caller one → IsLegalFrom state (item_entries state caller one)
item-legal state caller (item.Call one) speaks =
    legal-append state (entering state caller) (entry_of (entered state caller) caller one ∷ []) (entering-legal state caller speaks.0)
    (subst (λ s. IsLegalFrom s (entry_of (entered state caller) caller one ∷ [])) (sym (entering-state state caller))
    (one-legal (entered state caller) caller one (may-any (entered state caller) caller one speaks.1 (speaker-present state caller speaks.0))))
item-legal state caller (item.Bad column) speaks = none-legal state
item-legal state caller (item.Fault line kind) speaks = none-legal state

-- the entries of what is said and of all that is said later
more-legal : (state : State) (said : Said) (later : List Said) → Speaks state said.caller said.item → IsLegalFrom (said_after state said) (entries_from (said_after state said) later) → IsLegalFrom state (entries_from state (said ∷ later))
unfolding entries_from
more-legal state said later speaks legal =
    legal-append state (said_entries state said) (entries_from (after_entries state (said_entries state said)) later) (item-legal state said.caller said.item speaks)
    (subst (λ s. IsLegalFrom s (entries_from s later)) (sym (said-state state said)) legal)

nothing-legal : (state : State) → IsLegalFrom state (entries_from state [])
unfolding entries_from
nothing-legal state = none-legal state

-- all that lines say
lines-legal : (script : Script) (lines : List (List ℕ)) → Waits script → IsLegalFrom (state_at script) (entries_from (state_at script) (said_in script lines))
unfolding said_in
lines-legal (commanded state) [] waits = nothing-legal state
lines-legal (publishing state awaited body) [] waits = more-legal state (said_with awaited Cut) [] tt (nothing-legal state)
lines-legal script (line ∷ lines) waits =
    let turns : Turns script line = line-turns script line waits in
    let later : IsLegalFrom (state_at (line_after script line)) (entries_from (state_at (line_after script line)) (said_in (line_after script line) lines)) = lines-legal (line_after script line) lines turns.waits in
    elim turns.says [
      | inl none ↦
          subst (λ saids. IsLegalFrom (state_at script) (entries_from (state_at script) (saids ++ said_in (line_after script line) lines))) (sym none.0)
          (subst (λ s. IsLegalFrom s (entries_from s (said_in (line_after script line) lines))) none.2 later)
      | inr some ↦
          subst (λ saids. IsLegalFrom (state_at script) (entries_from (state_at script) (saids ++ said_in (line_after script line) lines))) (sym some.1)
          (more-legal (state_at script) some.0 (said_in (line_after script line) lines) some.4
          (subst (λ s. IsLegalFrom s (entries_from s (said_in (line_after script line) lines))) some.3 later))
    ]

-- the callers that are left leave, by number
leaves-legal : (before rest : List Caller) (state : State) (number : ℕ) → state.callers ≡ before ++ rest → number ≡ length before + 1 → IsLegalFrom state (leaving state number rest)
unfolding leaving IsLegalFrom
leaves-legal before [] state number are is = tt
leaves-legal before (c ∷ rest) state number are is =
    by c.left refl
    (leaves-legal (before ++ c ∷ []) rest state (number + 1) (are ∙ sym (append_assoc before (c ∷ []) rest)) (omega (arith, is, length-append before (c ∷ []))))
    (leaves-legal (before ++ gone c ∷ []) rest (after number call.Leave state) (number + 1)
    (ap (λ callers. change_numbered gone callers number) are ∙ change-next gone before rest c number is ∙ sym (append_assoc before (gone c ∷ []) rest))
    (omega (arith, is, length-append before (gone c ∷ []))))
  where
    by : (left : Bool) → c.left ≡ left → IsLegalFrom state (leaving state (number + 1) rest) → IsLegalFrom (after number call.Leave state) (leaving (after number call.Leave state) (number + 1) rest)
        → IsLegalFrom state (if left then leaving state (number + 1) rest else entry_of state number call.Leave ∷ leaving (after number call.Leave state) (number + 1) rest)
    by true e stayed left = stayed
    by false e stayed left = (
      ap (λ (found : Option Caller). unwrap_or (option_map (λ c. not c.left) found) false) (ap (λ callers. numbered callers number) are ∙ numbered-next before rest c number is) ∙ ap not e,
      refl,
      left,
    )

pub script_is_legal : (bytes : List ℕ) → IsLegal (script_history bytes)
script_is_legal bytes =
    let entries = entries_from empty (script_items bytes) in
    legal-append empty entries (leaving (state_after entries) 1 (state_after entries).callers) (lines-legal beginning (lines bytes) tt)
    (leaves-legal [] (state_after entries).callers (state_after entries) 1 refl refl)
