-- The text of a script, by its history.
use Rattle.std.proofs.Common.{◌≡◌, ℕ, nat_le, Bool, true, false, List, [], ◌∷◌, ◌++◌, length, if◌then◌else◌, inl, inr, refl, sym, ap, ◌∙◌, append_assoc}
use Rattle.std.proofs.lemmas.List.{append-nil}
use Rattle.pc_base.specs.Lines.{lines}
use Rattle.pc_calls.specs.declared.call.Call.TheVariants.{Enter}
use Rattle.pc_calls.specs.declared.entry.Entry.{Entry}
use Rattle.pc_calls.specs.History.{after_entries, entry_of, state_after}
use Rattle.pc_calls.specs.State.{State, empty}
use Rattle.pc_calls.specs.Step.{after}
use Rattle.pc_calls.proofs.HistoryLemmas.{after_entries-append}
use Rattle.pc_conn.specs.declared.body.Body.TheVariants.{Cut}
use Rattle.pc_conn.specs.declared.item.Item.{Item}
use Rattle.pc_conn.specs.declared.item.Item.TheVariants as item
use Rattle.pc_script.specs.declared.item.Said.{Said}
use Rattle.pc_script.specs.Request.{said_with}
use Rattle.pc_script.specs.Script.{Script, commanded, publishing, beginning, after_item, after_lines, answers, end_text, entered, last_answers, line_after, line_text, said_after, said_text, script_text}
use Rattle.pc_script.specs.ScriptHistory.{entering, item_entries, said_entries, said_in, script_items, texts_after}
use Rattle.pc_script.proofs.ScriptTurns.{line-turns, state_at, Turns, Waits}

-- the enter of a caller leads to the state in which it makes its call
pub entering-state : (state : State) (caller : ℕ) → after_entries state (entering state caller) ≡ entered state caller
unfolding after_entries
entering-state state caller = by (nat_le caller (length state.callers))
  where
    by : (there : Bool) → after_entries state (if there then [] else entry_of state caller Enter ∷ []) ≡ (if there then state else after caller Enter state)
    by true = refl
    by false = refl

pub one-entry : (state : State) (entry : Entry) → after_entries state (entry ∷ []) ≡ after entry.caller entry.call state
unfolding after_entries
one-entry state entry = refl

no-entry : (state : State) → after_entries state [] ≡ state
unfolding after_entries
no-entry state = refl

-- the entries of an item lead to the state after it
item-state : (state : State) (caller : ℕ) (one : Item) → after_entries state (item_entries state caller one) ≡ after_item caller one state
item-state state caller (item.Call call) =
    after_entries-append state (entering state caller) (entry_of (entered state caller) caller call ∷ [])
    ∙ ap (λ s. after_entries s (entry_of (entered state caller) caller call ∷ [])) (entering-state state caller)
    ∙ one-entry (entered state caller) (entry_of (entered state caller) caller call)
item-state state caller (item.Bad column) = no-entry state
item-state state caller (item.Fault line kind) = no-entry state

pub said-state : (state : State) (said : Said) → after_entries state (said_entries state said) ≡ said_after state said
said-state state said = item-state state said.caller said.item

-- one thing more is said
one-more : (history : List Entry) (said : Said) (later : List Said) (state : State) (text : List ℕ) → state ≡ state_after history → text ≡ texts_after (history ++ said_entries state said) later
    → said_text state said ++ text ≡ texts_after history (said ∷ later)
unfolding texts_after
one-more history said later state text is more = ap (λ t. said_text state said ++ t) more ∙ ap (λ s. said_text s said ++ texts_after (history ++ said_entries s said) later) is

nothing-more : (history : List Entry) → [] ≡ texts_after history []
unfolding texts_after
nothing-more history = refl

pub said-later : (history : List Entry) (said : Said) (state : State) → state ≡ state_after history → said_after state said ≡ state_after (history ++ said_entries state said)
said-later history said state is =
    sym (said-state state said) ∙ ap (λ s. after_entries s (said_entries state said)) is ∙ sym (after_entries-append empty history (said_entries state said))

-- the answers to lines, after a history that leads to the state they come in
texts-are : (script : Script) (lines : List (List ℕ)) (history : List Entry) → Waits script → state_at script ≡ state_after history → last_answers script lines ≡ texts_after history (said_in script lines)
unfolding answers after_lines said_in
texts-are (commanded state) [] history waits is = nothing-more history
texts-are (publishing state awaited body) [] history waits is =
    sym (append-nil (said_text state (said_with awaited Cut))) ∙ one-more history (said_with awaited Cut) [] state [] is (nothing-more _)
texts-are script (line ∷ lines) history waits is =
    let turns : Turns script line = line-turns script line waits in
    append_assoc (line_text script line) (answers (line_after script line) lines) (end_text (after_lines (line_after script line) lines))
    ∙ elim turns.says [
      | inl none ↦
          ap (λ t. t ++ last_answers (line_after script line) lines) none.1
          ∙ texts-are (line_after script line) lines history turns.waits (none.2 ∙ is)
          ∙ ap (λ saids. texts_after history (saids ++ said_in (line_after script line) lines)) (sym none.0)
      | inr some ↦
          ap (λ t. t ++ last_answers (line_after script line) lines) some.2
          ∙ one-more history some.0 (said_in (line_after script line) lines) (state_at script) (last_answers (line_after script line) lines) is
          (texts-are (line_after script line) lines (history ++ said_entries (state_at script) some.0) turns.waits (some.3 ∙ said-later history some.0 (state_at script) is))
          ∙ ap (λ saids. texts_after history (saids ++ said_in (line_after script line) lines)) (sym some.1)
    ]

pub text_is_of_history : (bytes : List ℕ) → script_text bytes ≡ texts_after [] (script_items bytes)
unfolding script_text after_entries
text_is_of_history bytes = texts-are beginning (lines bytes) [] tt refl
