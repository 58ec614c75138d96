-- The history of what lines say, and that it has each call once.
use Rattle.std.proofs.Common.{◌≡◌, ℕ, ◌+◌, nat_le, Bool, true, false, List, [], ◌∷◌, ◌++◌, length, if◌then◌else◌, Result, Ok, Err, inl, inr, refl, sym, subst, ap, ◌∙◌, append_assoc}
use Rattle.std.proofs.lemmas.List.{append-nil}
use Rattle.pc_base.specs.Lines.{lines}
use Rattle.pc_calls.specs.declared.call.Call.{Call}
use Rattle.pc_calls.specs.declared.call.Call.TheVariants as call
use Rattle.pc_calls.specs.declared.entry.Entry.{Entry}
use Rattle.pc_calls.specs.History.{after_entries, entry_of, state_after}
use Rattle.pc_calls.specs.State.{Caller, State, empty}
use Rattle.pc_calls.specs.Step.{after}
use Rattle.pc_calls.proofs.HistoryLemmas.{after_entries-append}
use Rattle.pc_book.specs.Book.{history_of, state_of_book}
use Rattle.pc_conn.specs.declared.body.Body.TheVariants.{Cut}
use Rattle.pc_conn.specs.declared.item.Item.{Item}
use Rattle.pc_conn.specs.declared.item.Item.TheVariants as item
use Rattle.pc_script.specs.declared.item.Said.{Said}
use Rattle.pc_script.specs.Request.{said_with}
use Rattle.pc_script.specs.Script.{Script, commanded, publishing, beginning, after_lines, entered, line_after, said_after}
use Rattle.pc_script.specs.ScriptHistory.{CallOf, asked, asked_in, end_said, entering, entries_from, item_entries, last_callers, leaves_of, leaving, line_said, present_from, said_by, said_call, said_calls, said_entries, said_in, script_entries, script_history, script_items, with_leaves}
use Rattle.pc_io.specs.Ends.{Ends}
use Rattle.pc_script.specs.declared.script_end.ScriptEnd.{ScriptEnd}
use Rattle.pc_script.specs.ScriptOutcome.{LeavesJournal, LeavesLines}
use Rattle.pc_script.specs.Spoken.{IsNoEnter, Speaks}
use Rattle.pc_script.proofs.Bodies.{said-append, said-split}
use Rattle.pc_script.proofs.ScriptTexts.{said-state}
use Rattle.pc_script.proofs.ScriptTurns.{line-turns, state_at, Turns, Waits}

-- ---- the entries of what lines say

pub nothing-made : state_of_book [] ≡ empty
unfolding after_entries
nothing-made = refl

pub nothing-recorded : history_of [] ≡ entries_from empty (said_by beginning [])
unfolding entries_from said_by
nothing-recorded = refl

entries-append : (state : State) (xs ys : List Said) → entries_from state (xs ++ ys) ≡ entries_from state xs ++ entries_from (after_entries state (entries_from state xs)) ys
unfolding entries_from after_entries
entries-append state [] ys = refl
entries-append state (said ∷ xs) ys =
    let first = said_entries state said in
    let onward = after_entries state first in
    ap (λ (es : List Entry). first ++ es) (entries-append onward xs ys)
    ∙ sym (append_assoc first (entries_from onward xs) (entries_from (after_entries onward (entries_from onward xs)) ys))
    ∙ ap (λ (s : State). (first ++ entries_from onward xs) ++ entries_from s ys) (sym (after_entries-append state first (entries_from onward xs)))

one-said-more : (state : State) (said : Said) → entries_from state (said ∷ []) ≡ said_entries state said
unfolding entries_from
one-said-more state said = append-nil (said_entries state said)

in-append : (script : Script) (xs ys : List (List ℕ)) → said_in script (xs ++ ys) ≡ said_by script xs ++ said_in (after_lines script xs) ys
unfolding said_in said_by after_lines
in-append script [] ys = refl
in-append script (line ∷ xs) ys =
    ap (λ (t : List Said). line_said script line ++ t) (in-append (line_after script line) xs ys)
    ∙ sym (append_assoc (line_said script line) (said_by (line_after script line) xs) (said_in (after_lines (line_after script line) xs) ys))

-- one thing more was said
said-more : (history : List Entry) (before : List Said) (said : Said) → history ≡ entries_from empty before → history ++ said_entries (state_after history) said ≡ entries_from empty (before ++ said ∷ [])
said-more history before said is =
    ap (λ (h : List Entry). h ++ said_entries (state_after h) said) is
    ∙ ap (λ (es : List Entry). entries_from empty before ++ es) (sym (one-said-more (state_after (entries_from empty before)) said))
    ∙ sym (entries-append empty before (said ∷ []))

module _ (history : List Entry) (xs ys : List (List ℕ)) (said : Said) (is : history ≡ entries_from empty (said_by beginning xs)) (leads : after_lines beginning xs ≡ commanded (state_after history)) where
  pub more-recorded : said_by (commanded (state_after history)) ys ≡ said ∷ [] → history ++ said_entries (state_after history) said ≡ entries_from empty (said_by beginning (xs ++ ys))
  more-recorded items =
      said-more history (said_by beginning xs) said is
      ∙ ap (λ (t : List Said). entries_from empty (said_by beginning xs ++ t)) (sym items)
      ∙ ap (λ (s : Script). entries_from empty (said_by beginning xs ++ said_by s ys)) (sym leads)
      ∙ ap (entries_from empty) (sym (said-append beginning xs ys))

  pub last-recorded : said_in (commanded (state_after history)) ys ≡ said ∷ [] → history ++ said_entries (state_after history) said ≡ entries_from empty (said_in beginning (xs ++ ys))
  last-recorded items =
      said-more history (said_by beginning xs) said is
      ∙ ap (λ (t : List Said). entries_from empty (said_by beginning xs ++ t)) (sym items)
      ∙ ap (λ (s : Script). entries_from empty (said_by beginning xs ++ said_in s ys)) (sym leads)
      ∙ ap (entries_from empty) (sym (in-append beginning xs ys))

pub same-recorded : (history : List Entry) (xs : List (List ℕ)) → history ≡ entries_from empty (said_by beginning xs) → after_lines beginning xs ≡ commanded (state_after history) → history ≡ entries_from empty (said_in beginning xs)
same-recorded history xs is leads =
    is ∙ ap (entries_from empty)
    (sym (append-nil (said_by beginning xs)) ∙ ap (λ (s : Script). said_by beginning xs ++ end_said s) (sym leads) ∙ sym (said-split beginning xs))

-- ---- each call once

asked-append : (xs ys : List Entry) → asked (xs ++ ys) ≡ asked xs ++ asked ys
asked-append [] ys = refl
asked-append (entry ∷ xs) ys = ap (λ (t : List CallOf). asked_in entry.caller entry.call ++ t) (asked-append xs ys) ∙ sym (append_assoc (asked_in entry.caller entry.call) (asked xs) (asked ys))

entering-asked : (state : State) (caller : ℕ) → asked (entering state caller) ≡ []
entering-asked state caller = by (nat_le caller (length state.callers))
  where
    by : (there : Bool) → asked (if there then [] else entry_of state caller call.Enter ∷ []) ≡ []
    by true = refl
    by false = refl

no-enter-asked : (caller : ℕ) (one : Call) → IsNoEnter one → asked_in caller one ≡ (caller, one) ∷ []
no-enter-asked caller call.Enter never = absurd never
no-enter-asked caller call.Open says = refl
no-enter-asked caller (call.Show session) says = refl
no-enter-asked caller (call.Choose session variable value) says = refl
no-enter-asked caller (call.Retract session variable) says = refl
no-enter-asked caller (call.Bound session cost most) says = refl
no-enter-asked caller (call.Unbound session cost) says = refl
no-enter-asked caller (call.Rebase session version dropping) says = refl
no-enter-asked caller (call.Close session) says = refl
no-enter-asked caller (call.Publish base file) says = refl
no-enter-asked caller (call.Reclaim version) says = refl
no-enter-asked caller call.Versions says = refl
no-enter-asked caller call.Leave says = refl

item-asked : (state : State) (caller : ℕ) (one : Item) → Speaks state caller one → asked (item_entries state caller one) ≡ said_call caller one
item-asked state caller (item.Call one) speaks =
    asked-append (entering state caller) (entry_of (entered state caller) caller one ∷ [])
    ∙ ap (λ (t : List CallOf). t ++ asked (entry_of (entered state caller) caller one ∷ [])) (entering-asked state caller)
    ∙ append-nil (asked_in caller one) ∙ no-enter-asked caller one speaks.1
item-asked state caller (item.Bad column) speaks = refl
item-asked state caller (item.Fault line kind) speaks = refl

more-asked : (state : State) (said : Said) (later : List Said) → Speaks state said.caller said.item → asked (entries_from (said_after state said) later) ≡ said_calls later → asked (entries_from state (said ∷ later)) ≡ said_calls (said ∷ later)
unfolding entries_from
more-asked state said later speaks is =
    asked-append (said_entries state said) (entries_from (after_entries state (said_entries state said)) later)
    ∙ ap (λ (s : State). asked (said_entries state said) ++ asked (entries_from s later)) (said-state state said)
    ∙ ap (λ (t : List CallOf). t ++ asked (entries_from (said_after state said) later)) (item-asked state said.caller said.item speaks)
    ∙ ap (λ (t : List CallOf). said_call said.caller said.item ++ t) is

nothing-asked : (state : State) → asked (entries_from state []) ≡ said_calls []
unfolding entries_from
nothing-asked state = refl

lines-asked : (script : Script) (lines : List (List ℕ)) → Waits script → asked (entries_from (state_at script) (said_in script lines)) ≡ said_calls (said_in script lines)
unfolding said_in
lines-asked (commanded state) [] waits = nothing-asked state
lines-asked (publishing state awaited body) [] waits = more-asked state (said_with awaited Cut) [] tt (nothing-asked (said_after state (said_with awaited Cut)))
lines-asked script (line ∷ lines) waits =
    let turns : Turns script line = line-turns script line waits in
    let rest = said_in (line_after script line) lines in
    let later : asked (entries_from (state_at (line_after script line)) rest) ≡ said_calls rest = lines-asked (line_after script line) lines turns.waits in
    elim turns.says [
      | inl none ↦
          subst (λ saids. asked (entries_from (state_at script) (saids ++ rest)) ≡ said_calls (saids ++ rest)) (sym none.0)
          (subst (λ s. asked (entries_from s rest) ≡ said_calls rest) none.2 later)
      | inr some ↦
          subst (λ saids. asked (entries_from (state_at script) (saids ++ rest)) ≡ said_calls (saids ++ rest)) (sym some.1)
          (more-asked (state_at script) some.0 rest some.4 (subst (λ s. asked (entries_from s rest) ≡ said_calls rest) some.3 later))
    ]

leaves-asked : (state : State) (number : ℕ) (callers : List Caller) → asked (leaving state number callers) ≡ leaves_of (present_from number callers)
unfolding leaving
leaves-asked state number [] = refl
leaves-asked state number (c ∷ callers) = by c.left (leaves-asked state (number + 1) callers) (leaves-asked (after number call.Leave state) (number + 1) callers)
  where
    by : (left : Bool) → asked (leaving state (number + 1) callers) ≡ leaves_of (present_from (number + 1) callers) → asked (leaving (after number call.Leave state) (number + 1) callers) ≡ leaves_of (present_from (number + 1) callers)
        → asked (if left then leaving state (number + 1) callers else entry_of state number call.Leave ∷ leaving (after number call.Leave state) (number + 1) callers) ≡ leaves_of (if left then present_from (number + 1) callers else number ∷ present_from (number + 1) callers)
    by true stayed gone = stayed
    by false stayed gone = ap (λ (t : List CallOf). (number, call.Leave) ∷ t) gone

pub made_once : (bytes : List ℕ) → asked (script_history bytes) ≡ said_calls (script_items bytes) ++ leaves_of (last_callers bytes)
made_once bytes =
    let entries = script_entries bytes in
    asked-append entries (leaving (state_after entries) 1 (state_after entries).callers)
    ∙ ap (λ (t : List CallOf). t ++ asked (leaving (state_after entries) 1 (state_after entries).callers)) (lines-asked beginning (lines bytes) tt)
    ∙ ap (λ (t : List CallOf). said_calls (script_items bytes) ++ t) (leaves-asked (state_after entries) 1 (state_after entries).callers)

-- ---- the journal

-- when all have left
pub leaves_journal : (history journal : List Entry) (result : Result (Unit {0}) ScriptEnd) (before after : Ends) → journal ≡ with_leaves history → LeavesLines history result before after → LeavesJournal journal result before after
leaves_journal history journal (Ok done) before after is lines = record { answers = lines.answers; recorded = is ∙ ap with_leaves lines.recorded }
leaves_journal history journal (Err end) before after is lines = lines
