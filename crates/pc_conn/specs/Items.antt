-- What lines say: items, each of which is answered, and publishes, whose text follows.
use Rattle.std.specs.Prelude.{ℕ, ◌+◌, ⊤, List, length, Result, Ok, Err}
use Rattle.pc_calls.specs.declared.bad_column.BadColumn.{BadColumn}
use Rattle.pc_calls.specs.declared.call.Call.{Call}
use Rattle.pc_calls.specs.declared.call.Call.TheVariants as call
use Rattle.pc_calls.specs.declared.line_call.LineCall.{LineCall}
use Rattle.pc_calls.specs.declared.line_call.LineCall.TheVariants.{Whole, PublishHead}
use Rattle.pc_calls.specs.CommandLine.{line_call}
use Rattle.pc_conn.specs.declared.body.Body.{Body}
use Rattle.pc_conn.specs.declared.body.Body.TheVariants as body
use Rattle.pc_conn.specs.declared.item.Announced.{Announced}
use Rattle.pc_conn.specs.declared.item.Heard.{Heard}
use Rattle.pc_conn.specs.declared.item.Heard.TheVariants as says
use Rattle.pc_conn.specs.declared.item.Item.{Item}
use Rattle.pc_conn.specs.declared.item.Item.TheVariants as item

-- what the words of a line of so many bytes say
abbrev pub heard_call : ℕ → Result LineCall BadColumn → Heard
heard_call line_length (Ok (Whole call)) = says.Item (item.Call call)
heard_call line_length (Ok (PublishHead base lines)) = says.Publish (record { base = base; lines = lines; end_column = line_length + 1 })
heard_call line_length (Err bad) = says.Item (item.Bad bad.column)

-- what a line says from a byte on
abbrev pub heard : List ℕ → ℕ → Heard
heard line from = heard_call (length line) (line_call line from)

-- what a publish says with its text
abbrev pub published : Announced → Body → Item
published announced (body.File file) = item.Call (call.Publish announced.base file)
published announced (body.Fault line kind) = item.Fault line kind
published announced body.Cut = item.Bad announced.end_column

-- P of the call, if one is heard
abbrev pub IfCall : Heard → (Call → Type 0) → Type 0
IfCall (says.Item (item.Call call)) P = P call
IfCall heard P = ⊤
