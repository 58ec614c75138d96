-- What a function that reads words returned, set beside what reading gives.
use Rattle.std.specs.Prelude.{◌≡◌, Result, Ok, Err}
use Rattle.pc_calls.specs.declared.bad_column.BadColumn.{BadColumn}
use Rattle.pc_calls.specs.CommandReader.{Rest}

-- It is what reading gives, and the words that it left are those after it.
abbrev pub Reads : {A : Type 0} → Result (A × Rest) BadColumn → Result A BadColumn → Rest → Type 0
Reads outcome (Ok value) rest = outcome ≡ Ok (value, rest)
Reads outcome (Err column) rest = outcome ≡ Err column
