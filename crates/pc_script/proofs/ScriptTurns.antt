-- What a line of a script says, is answered and leaves.
use Rattle.std.proofs.Common.{◌≡◌, ℕ, Bool, true, false, cond, if◌then◌else◌, List, [], ◌∷◌, ◌++◌, length, Option, Some, None, Result, Ok, Err, inl, inr, ◌⊎◌, refl, sym, subst}
use Rattle.pc_calls.specs.declared.bad_column.BadColumn.{BadColumn}
use Rattle.pc_calls.specs.declared.call.Call.{Call}
use Rattle.pc_calls.specs.declared.call.Call.TheVariants as call
use Rattle.pc_calls.specs.declared.line_call.LineCall.{LineCall}
use Rattle.pc_calls.specs.declared.line_call.LineCall.TheVariants.{Whole, PublishHead}
use Rattle.pc_calls.specs.CommandLine.{line_call}
use Rattle.pc_names.specs.Number.{unsigned_of}
use Rattle.pc_calls.specs.LineWords.{LineWord, words_from, end_of}
use Rattle.pc_calls.specs.State.{State}
use Rattle.pc_calls.specs.CallWords.{IsSayable}
use Rattle.pc_calls.proofs.WordsSaid.{Says, read_is_said}
use Rattle.pc_conn.specs.declared.body.Body.{Body}
use Rattle.pc_conn.specs.declared.body.Body.TheVariants as body
use Rattle.pc_conn.specs.Items.{heard as heard_words, heard_call}
use Rattle.pc_conn.specs.BodyText.{body_of}
use Rattle.pc_file.specs.PrintedForm.{text_of_lines}
use Rattle.pc_script.specs.declared.item.Awaited.{Awaited}
use Rattle.pc_script.specs.declared.item.Request.{Request}
use Rattle.pc_script.specs.declared.item.Request.TheVariants as says
use Rattle.pc_script.specs.declared.item.Said.{Said}
use Rattle.pc_script.specs.Request.{caller_of, requested, requested_after, requested_from, may_speak, of_caller, only_if, said_with}
use Rattle.pc_script.specs.Spoken.{IsNoEnter, IsSpokenBy, Speaks}
use Rattle.pc_script.specs.Script.{Script, commanded, publishing, body_after, body_text, requested_text, is_whole, line_after, line_text, said_after, said_of, said_text, requested_after as script_after}
use Rattle.pc_script.specs.ScriptHistory.{body_said, line_said, said_once}

-- the state of a script between two lines
abbrev pub state_at : Script → State
state_at (commanded state) = state
state_at (publishing state awaited lines) = state

-- the caller of a publish that waits for its text may speak
abbrev pub Waits : Script → Type 0
Waits (commanded state) = Unit {0}
Waits (publishing state awaited lines) = may_speak state awaited.caller ≡ true

-- Nothing is said and answered, and the state stays; or one thing is, of a caller that may speak. What comes after waits.
pub record TurnsTo (state : State) (text : List ℕ) (said : List Said) (after : Script) : Type 0 where
  pub says :
      ((said ≡ []) × (text ≡ []) × (state_at after ≡ state))
      ⊎ ((one : Said) × (said ≡ one ∷ []) × (text ≡ said_text state one) × (state_at after ≡ said_after state one) × Speaks state one.caller one.item)
  pub waits : Waits after

-- what a line does
abbrev pub Turns : Script → List ℕ → Type 0
Turns script line = TurnsTo (state_at script) (line_text script line) (line_said script line) (line_after script line)

-- what a publish says with its text
pub published-speaks : (state : State) (awaited : Awaited) (told : Body) → may_speak state awaited.caller ≡ true → Speaks state awaited.caller (said_with awaited told).item
published-speaks state awaited (body.File file) may = (may, tt)
published-speaks state awaited (body.Fault line kind) may = tt
published-speaks state awaited body.Cut may = tt

-- the lines of its text are all there, or not yet
body-turns : (state : State) (awaited : Awaited) (lines : List (List ℕ)) → may_speak state awaited.caller ≡ true → TurnsTo state (body_text state awaited lines) (body_said awaited lines) (body_after state awaited lines)
body-turns state awaited lines may = by (is_whole awaited lines)
  where
    by : (whole : Bool) → TurnsTo state (cond whole (said_text state (said_of awaited lines)) []) (cond whole (said_of awaited lines ∷ []) []) (cond whole (commanded (said_after state (said_of awaited lines))) (publishing state awaited lines))
    by true = record { says = inr (said_of awaited lines, refl, refl, refl, published-speaks state awaited (body_of (text_of_lines lines)) may); waits = tt }
    by false = record { says = inl (refl, refl, refl); waits = may }

-- no line says an enter
no-enter : (call : Call) → IsSayable (Whole call) → IsNoEnter call
no-enter call.Enter sayable = sayable
no-enter call.Open sayable = tt
no-enter (call.Show session) sayable = tt
no-enter (call.Choose session variable value) sayable = tt
no-enter (call.Retract session variable) sayable = tt
no-enter (call.Bound session cost most) sayable = tt
no-enter (call.Unbound session cost) sayable = tt
no-enter (call.Rebase session version dropping) sayable = tt
no-enter (call.Close session) sayable = tt
no-enter (call.Publish base file) sayable = tt
no-enter (call.Reclaim version) sayable = tt
no-enter call.Versions sayable = tt
no-enter call.Leave sayable = tt

words-speak : (state : State) (caller : ℕ) (line : List ℕ) (from : ℕ) → may_speak state caller ≡ true → IsSpokenBy state (of_caller caller (heard_words line from))
words-speak state caller line from may = by (line_call line from) refl
  where
    by : (read : Result LineCall BadColumn) → line_call line from ≡ read → IsSpokenBy state (of_caller caller (heard_call (length line) read))
    by (Ok (Whole call)) is =
        let said : Says line from (Whole call) = read_is_said line from (Ok (Whole call)) (sym is) in
        (may, no-enter call said.0)
    by (Ok (PublishHead base lines)) is = may
    by (Err bad) is = tt

named-may : (state : State) (named : Option ℕ) (caller : ℕ) → only_if (may_speak state) named ≡ Some caller → may_speak state caller ≡ true
named-may state None caller e = absurd cc
named-may state (Some n) caller e = by (may_speak state n) refl e
  where
    same : (n caller : ℕ) → Some n ≡ Some caller → n ≡ caller
    same n caller e = cc

    by : (may : Bool) → may_speak state n ≡ may → (if may then Some n else None) ≡ Some caller → may_speak state caller ≡ true
    by true is e = subst (λ c. may_speak state c ≡ true) (same n caller e) is
    by false is e = absurd cc

caller-may : (state : State) (word : List ℕ) (caller : ℕ) → caller_of state word ≡ Some caller → may_speak state caller ≡ true
unfolding caller_of
caller-may state word caller e = named-may state (unsigned_of word) caller e

from-speaks : (state : State) (line : List ℕ) (words : List LineWord) → IsSpokenBy state (requested_from state line words)
from-speaks state line [] = tt
from-speaks state line (word ∷ words) = by (caller_of state word.bytes) refl
  where
    by : (caller : Option ℕ) → caller_of state word.bytes ≡ caller → IsSpokenBy state (requested_after caller line word)
    by None is = tt
    by (Some caller) is = words-speak state caller line (end_of word) (caller-may state word.bytes caller is)

pub request_speaks : (state : State) (line : List ℕ) → IsSpokenBy state (requested state line)
unfolding requested
request_speaks state line = from-speaks state line (words_from line 0)

request-turns : (state : State) (h : Request) → IsSpokenBy state h → TurnsTo state (requested_text state h) (said_once h) (script_after state h)
request-turns state (says.Said said) speaks = record { says = inr (said, refl, refl, refl, speaks); waits = tt }
request-turns state (says.Publish awaited) may = body-turns state awaited [] may

-- each line turns
pub line-turns : (script : Script) (line : List ℕ) → Waits script → Turns script line
line-turns (commanded state) line waits = request-turns state (requested state line) (request_speaks state line)
line-turns (publishing state awaited lines) line may = body-turns state awaited (lines ++ line ∷ []) may

-- what is said with the end is no call
pub end-speaks : (state : State) (awaited : Awaited) → Speaks state awaited.caller (said_with awaited body.Cut).item
end-speaks state awaited = tt
