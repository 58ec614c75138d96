-- The history that a script makes.
use Rattle.std.specs.Prelude.{ℕ, ◌+◌, nat_le, if◌then◌else◌, List, [], ◌∷◌, ◌++◌, length, map}
use Rattle.pc_base.specs.Lines.{lines}
use Rattle.pc_calls.specs.declared.call.Call.{Call}
use Rattle.pc_calls.specs.declared.call.Call.TheVariants.{Enter, Leave}
use Rattle.pc_calls.specs.declared.entry.Entry.{Entry}
use Rattle.pc_calls.specs.History.{after_entries, entry_of, state_after}
use Rattle.pc_calls.specs.State.{Caller, State, empty}
use Rattle.pc_calls.specs.Step.{after}
use Rattle.pc_conn.specs.declared.body.Body.TheVariants.{Cut}
use Rattle.pc_conn.specs.declared.item.Item.{Item}
use Rattle.pc_conn.specs.declared.item.Item.TheVariants as item
use Rattle.pc_script.specs.declared.item.Awaited.{Awaited}
use Rattle.pc_script.specs.declared.item.Request.{Request}
use Rattle.pc_script.specs.declared.item.Request.TheVariants as says
use Rattle.pc_script.specs.declared.item.Said.{Said}
use Rattle.pc_script.specs.Request.{requested, said_with}
use Rattle.pc_script.specs.Script.{Script, commanded, publishing, beginning, entered, is_whole, line_after, said_of, said_text}

-- what is said once so many lines of a publish's text are there
abbrev pub body_said : Awaited → List (List ℕ) → List Said
body_said awaited lines = if is_whole awaited lines then said_of awaited lines ∷ [] else []

abbrev pub said_once : Request → List Said
said_once (says.Said said) = said ∷ []
said_once (says.Publish awaited) = body_said awaited []

-- what is said with a line
abbrev pub line_said : Script → List ℕ → List Said
line_said (commanded state) line = said_once (requested state line)
line_said (publishing state awaited lines) line = body_said awaited (lines ++ line ∷ [])

-- what is said with the lines of an input, of which more may come
unfoldable pub said_by : Script → List (List ℕ) → List Said
said_by script [] = []
said_by script (line ∷ lines) = line_said script line ++ said_by (line_after script line) lines

-- what is said with the end: a publish that it cuts
abbrev pub end_said : Script → List Said
end_said (commanded state) = []
end_said (publishing state awaited lines) = said_with awaited Cut ∷ []

-- what lines say, after which nothing comes
unfoldable pub said_in : Script → List (List ℕ) → List Said
said_in script [] = end_said script
said_in script (line ∷ lines) = line_said script line ++ said_in (line_after script line) lines

-- all that the bytes of a script say: each item with its caller
abbrev pub script_items : List ℕ → List Said
script_items bytes = said_in beginning (lines bytes)

-- the enter of a caller that hasn't entered
abbrev pub entering : State → ℕ → List Entry
entering state caller = if nat_le caller (length state.callers) then [] else entry_of state caller Enter ∷ []

-- the entries of a caller's item: a call's own, after the enter of its caller; else none
abbrev pub item_entries : State → ℕ → Item → List Entry
item_entries state caller (item.Call call) = entering state caller ++ entry_of (entered state caller) caller call ∷ []
item_entries state caller item = []

abbrev pub said_entries : State → Said → List Entry
said_entries state said = item_entries state said.caller said.item

-- the entries of all that is said from a state on
unfoldable pub entries_from : State → List Said → List Entry
entries_from state [] = []
entries_from state (said ∷ later) = said_entries state said ++ entries_from (after_entries state (said_entries state said)) later

-- of callers whose numbers begin with this one, the numbers of those that haven't left
abbrev pub present_from : ℕ → List Caller → List ℕ
present_from number [] = []
present_from number (caller ∷ callers) = if caller.left then present_from (number + 1) callers else number ∷ present_from (number + 1) callers

abbrev pub those_present : State → List ℕ
those_present state = present_from 1 state.callers

-- the leave of each of the callers from a number on that hasn't left
unfoldable pub leaving : State → ℕ → List Caller → List Entry
leaving state number [] = []
leaving state number (caller ∷ callers) =
    if caller.left then leaving state (number + 1) callers else entry_of state number Leave ∷ leaving (after number Leave state) (number + 1) callers

-- the calls of a script's bytes, and at the end the leaves
abbrev pub with_leaves : List Entry → List Entry
with_leaves entries = entries ++ leaving (state_after entries) 1 (state_after entries).callers

-- the entries of all that the bytes of a script say
abbrev pub script_entries : List ℕ → List Entry
script_entries bytes = entries_from empty (script_items bytes)

abbrev pub script_history : List ℕ → List Entry
script_history bytes = with_leaves (script_entries bytes)

-- the answers to what is said, each in the state after the history up to it
unfoldable pub texts_after : List Entry → List Said → List ℕ
texts_after history [] = []
texts_after history (said ∷ later) = said_text (state_after history) said ++ texts_after (history ++ said_entries (state_after history) said) later

-- a call, and the number of the caller that made it
abbrev pub CallOf : Type 0
CallOf = ℕ × Call

-- the calls of entries, in order, but for the enters
abbrev pub asked_in : ℕ → Call → List CallOf
asked_in caller Enter = []
asked_in caller call = (caller, call) ∷ []

abbrev pub asked : List Entry → List CallOf
asked [] = []
asked (entry ∷ entries) = asked_in entry.caller entry.call ++ asked entries

-- the calls of what is said, in order
abbrev pub said_call : ℕ → Item → List CallOf
said_call caller (item.Call call) = (caller, call) ∷ []
said_call caller item = []

abbrev pub said_calls : List Said → List CallOf
said_calls [] = []
said_calls (said ∷ later) = said_call said.caller said.item ++ said_calls later

-- the leaves of callers of these numbers
abbrev pub leaves_of : List ℕ → List CallOf
leaves_of numbers = map (λ number. (number, Leave)) numbers

-- the numbers of the callers that are present when all lines have been answered
abbrev pub last_callers : List ℕ → List ℕ
last_callers bytes = those_present (state_after (script_entries bytes))
