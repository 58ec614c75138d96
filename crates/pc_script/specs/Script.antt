-- What each line of a script is answered, and what it leaves.
use Rattle.std.specs.Prelude.{ℕ, nat_le, Bool, if◌then◌else◌, List, [], ◌∷◌, ◌++◌, length, codes, decimal}
use Rattle.pc_base.specs.Lines.{lines}
use Rattle.pc_file.specs.PrintedForm.{text_of_lines}
use Rattle.pc_calls.specs.declared.call.Call.TheVariants.{Enter}
use Rattle.pc_calls.specs.Heads.{reply}
use Rattle.pc_calls.specs.State.{State, empty}
use Rattle.pc_calls.specs.Step.{after}
use Rattle.pc_conn.specs.declared.body.Body.TheVariants.{Cut}
use Rattle.pc_conn.specs.declared.item.Item.{Item}
use Rattle.pc_conn.specs.declared.item.Item.TheVariants as item
use Rattle.pc_conn.specs.Answers.{answer_text}
use Rattle.pc_conn.specs.BodyText.{body_of}
use Rattle.pc_script.specs.declared.item.Awaited.{Awaited}
use Rattle.pc_script.specs.declared.item.Request.{Request}
use Rattle.pc_script.specs.declared.item.Request.TheVariants as says
use Rattle.pc_script.specs.declared.item.Said.{Said}
use Rattle.pc_script.specs.Request.{requested, said_with}

-- `caller N`
abbrev pub caller_line : ℕ → List ℕ
caller_line caller = codes "caller " ++ decimal caller ++ 10 ∷ []

-- the state in which a caller makes a call: it enters before its first
abbrev pub entered : State → ℕ → State
entered state caller = if nat_le caller (length state.callers) then state else after caller Enter state

-- the answer to what was said, and the state after it
abbrev pub said_text : State → Said → List ℕ
said_text state said = caller_line said.caller ++ answer_text (λ call. reply said.caller call (entered state said.caller)) said.item

-- the state after a caller's item: only calls change it
abbrev pub after_item : ℕ → Item → State → State
after_item caller (item.Call call) state = after caller call (entered state caller)
after_item caller item state = state

abbrev pub said_after : State → Said → State
said_after state said = after_item said.caller said.item state

-- A script between two lines: a command comes next, or one more line of a publish's text, of which these came.
pub data Script : Type 0 where
  commanded : State → Script
  publishing : State → Awaited → List (List ℕ) → Script

-- before the first line
abbrev pub beginning : Script
beginning = commanded empty

-- the lines of a publish's text are all there
abbrev pub is_whole : Awaited → List (List ℕ) → Bool
is_whole awaited lines = nat_le awaited.publish.lines (length lines)

-- what a publish says with the lines of its text
abbrev pub said_of : Awaited → List (List ℕ) → Said
said_of awaited lines = said_with awaited (body_of (text_of_lines lines))

abbrev pub body_text : State → Awaited → List (List ℕ) → List ℕ
body_text state awaited lines = if is_whole awaited lines then said_text state (said_of awaited lines) else []

abbrev pub body_after : State → Awaited → List (List ℕ) → Script
body_after state awaited lines = if is_whole awaited lines then commanded (said_after state (said_of awaited lines)) else publishing state awaited lines

-- what is said is answered, and a publish waits for its text
abbrev pub requested_text : State → Request → List ℕ
requested_text state (says.Said said) = said_text state said
requested_text state (says.Publish awaited) = body_text state awaited []

abbrev pub requested_after : State → Request → Script
requested_after state (says.Said said) = commanded (said_after state said)
requested_after state (says.Publish awaited) = body_after state awaited []

-- what a line is answered
abbrev pub line_text : Script → List ℕ → List ℕ
line_text (commanded state) line = requested_text state (requested state line)
line_text (publishing state awaited lines) line = body_text state awaited (lines ++ line ∷ [])

-- what it leaves
abbrev pub line_after : Script → List ℕ → Script
line_after (commanded state) line = requested_after state (requested state line)
line_after (publishing state awaited lines) line = body_after state awaited (lines ++ line ∷ [])

-- the answers to lines, one after the other
unfoldable pub answers : Script → List (List ℕ) → List ℕ
answers script [] = []
answers script (line ∷ lines) = line_text script line ++ answers (line_after script line) lines

-- the script after lines
unfoldable pub after_lines : Script → List (List ℕ) → Script
after_lines script [] = script
after_lines script (line ∷ lines) = after_lines (line_after script line) lines

-- the answer to a publish whose text the input's end cuts
abbrev pub end_text : Script → List ℕ
end_text (commanded state) = []
end_text (publishing state awaited lines) = said_text state (said_with awaited Cut)

-- the answers to the whole lines of an input, of which more may come
abbrev pub answers_to : List (List ℕ) → List ℕ
answers_to = answers beginning

-- the answers to lines after which nothing comes, and to a publish that is cut by their end
abbrev pub last_answers : Script → List (List ℕ) → List ℕ
last_answers script lines = answers script lines ++ end_text (after_lines script lines)

-- the text of a script: the answers to all lines of its bytes, and to a publish that is cut at the end
unfoldable pub script_text : List ℕ → List ℕ
script_text bytes = last_answers beginning (lines bytes)
