-- Histories: the calls of all callers in one order, each with the head of its answer.
use Rattle.std.specs.Prelude.{◌≡◌, ℕ, ◌+◌, ◌==◌, Bool, true, false, not, List, [], ◌∷◌, length, filter, option_map, unwrap_or}
use Rattle.pc_calls.specs.declared.call.Call.{Call}
use Rattle.pc_calls.specs.declared.call.Call.TheVariants.{Enter}
use Rattle.pc_calls.specs.declared.entry.Entry.{Entry}
use Rattle.pc_calls.specs.State.{State, empty, numbered}
use Rattle.pc_calls.specs.Step.{after}
use Rattle.pc_calls.specs.Heads.{head}

-- the state after one more entry
abbrev pub after_entry : State → Entry → State
after_entry state entry = after entry.caller entry.call state

-- the state after entries from a state on
unfoldable pub after_entries : State → List Entry → State
after_entries state [] = state
after_entries state (entry ∷ entries) = after_entries (after_entry state entry) entries

-- the state after a history
abbrev pub state_after : List Entry → State
state_after = after_entries empty

-- the caller has entered and not left
abbrev pub is_present : State → ℕ → Bool
is_present state caller = unwrap_or (option_map (λ c. not c.left) (numbered state.callers caller)) false

-- an enter has the next caller's number, and any other call is made by a caller that has entered and not left
abbrev pub may_make : State → ℕ → Call → Bool
may_make state caller Enter = caller == length state.callers + 1
may_make state caller call = is_present state caller

-- each entry is a call that its caller may make, with the head of the answer to it, from a state on
unfoldable pub IsLegalFrom : State → List Entry → Type 0
IsLegalFrom state [] = Unit {0}
IsLegalFrom state (entry ∷ entries) =
    (may_make state entry.caller entry.call ≡ true) × (entry.head ≡ head entry.caller entry.call state) × IsLegalFrom (after_entry state entry) entries

-- a history is legal
abbrev pub IsLegal : List Entry → Type 0
IsLegal = IsLegalFrom empty

-- the entry of a caller's call in a state
abbrev pub entry_of : State → ℕ → Call → Entry
entry_of state caller call = record { caller = caller; call = call; head = head caller call state }

-- the entries that a caller made, in order
abbrev pub made : List Entry → ℕ → List Entry
made entries caller = filter (λ entry. entry.caller == caller) entries
