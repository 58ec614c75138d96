-- A worked example: the script of a visit to the bike.
use Rattle.std.specs.Prelude.{ℕ, List, [], ◌∷◌, ◌++◌, codes}
use Rattle.pc_file.specs.Bike.{bike, bike_printed}
use Rattle.pc_calls.specs.declared.call.Call.{Call}
use Rattle.pc_calls.specs.declared.call.Call.TheVariants.{Enter, Open, Publish, Leave}
use Rattle.pc_calls.specs.declared.entry.Entry.{Entry}
use Rattle.pc_calls.specs.declared.outcome.Outcome.TheVariants.{Done}
use Rattle.pc_conn.specs.declared.item.Item.{Item}
use Rattle.pc_conn.specs.declared.item.Item.TheVariants as item
use Rattle.pc_script.specs.declared.item.Said.{Said}
use Rattle.pc_book.specs.Visits.{plain_head}

-- the bike is published and opened, and a line has no command
abbrev pub bike_script : List ℕ
bike_script = codes "1 publish 0 16\n" ++ bike_printed ++ codes "1 open\n1 bogus\n"

-- an item of caller 1
abbrev first_says : Item → Said
first_says item = record { caller = 1; item = item }

-- what the lines say; the second word of the last is wrong
abbrev pub bike_items : List Said
bike_items = first_says (item.Call (Publish 0 bike)) ∷ first_says (item.Call Open) ∷ first_says (item.Bad 3) ∷ []

-- a call of caller 1 that is done, about a session and a version
abbrev first_makes : Call → ℕ → ℕ → Entry
first_makes call session version = record { caller = 1; call = call; head = plain_head session version Done }

-- the caller enters before its first call, the wrong line makes no entry, and at the end the caller leaves
abbrev pub bike_history : List Entry
bike_history = first_makes Enter 0 0 ∷ first_makes (Publish 0 bike) 0 1 ∷ first_makes Open 1 1 ∷ first_makes Leave 0 0 ∷ []
