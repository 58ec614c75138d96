-- A worked example: a script of two lines, a call and a line that says none.
use Rattle.std.specs.Prelude.{ℕ, List, [], ◌∷◌, codes}
use Rattle.pc_calls.specs.declared.call.Call.{Call}
use Rattle.pc_calls.specs.declared.call.Call.TheVariants.{Enter, Open, Leave}
use Rattle.pc_calls.specs.declared.entry.Entry.{Entry}
use Rattle.pc_calls.specs.declared.outcome.Outcome.{Outcome}
use Rattle.pc_calls.specs.declared.outcome.Outcome.TheVariants.{Done, NoVersion}
use Rattle.pc_conn.specs.declared.item.Item.TheVariants as item
use Rattle.pc_script.specs.declared.item.Said.{Said}
use Rattle.pc_book.specs.Visits.{plain_head}

-- nothing was published, so nothing is opened, and `bogus` is no command
abbrev pub short_script : List ℕ
short_script = codes "1 open\n1 bogus\n"

-- what the lines say: a call of caller 1, and its second word, which is wrong
abbrev pub short_items : List Said
short_items = record { caller = 1; item = item.Call Open } ∷ record { caller = 1; item = item.Bad 3 } ∷ []

-- an entry of caller 1, whose head tells no session and no version
abbrev pub first_entry : Call → Outcome → Entry
first_entry call outcome = record { caller = 1; call = call; head = plain_head 0 0 outcome }

-- the caller enters before its first call, the wrong line makes no entry, and at the end the caller leaves
abbrev pub short_history : List Entry
short_history = first_entry Enter Done ∷ first_entry Open NoVersion ∷ first_entry Leave Done ∷ []

-- what the script is answered
abbrev pub short_text : List ℕ
short_text = codes "caller 1\nno 0 0 21 no-version\n.\ncaller 1\nbad 3\n.\n"
