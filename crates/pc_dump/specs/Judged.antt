-- Lines that are judged one after the other.
use Rattle.std.specs.Prelude.{◌≡◌, ℕ, ◌-◌, ◌<◌, ◌≤◌, List, ◌++◌, length, take, Option, None, Some}
use Rattle.pc_diagram.specs.declared.raw_diagram.RawDiagram.{RawDiagram}
use Rattle.pc_dump.specs.declared.draft.Draft.{Draft}
use Rattle.pc_dump.specs.declared.reader.Reader.{Reader}
use Rattle.pc_dump.specs.Dump.{Words, dump_words}
use Rattle.pc_dump.specs.Draft.{IsDraft, Rest}
use Rattle.pc_dump.specs.Form.{AreTables, Begins}

-- these lines are those that the draft was read from: what tables go on with after them is what is still to come of the
-- tables that agree with it
pub record IsRead (draft : Draft) (taken : List Words) : Type 0 where
  pub is_draft : IsDraft draft
  pub on : (raw : RawDiagram) (later : List Words) → AreTables raw → dump_words raw ≡ taken ++ later → Rest draft raw later
  pub back : (raw : RawDiagram) (later : List Words) → AreTables raw → Rest draft raw later → dump_words raw ≡ taken ++ later

-- the lines before this one begin the text of some tables, and with it they don't
pub record GoesWrong (line : ℕ) (taken : List Words) : Type 0 where
  pub counted : 0 < line
  pub within : line ≤ length taken
  pub begins : Begins (take (line - 1) taken)
  pub misfit : Begins (take line taken) → ⊥

-- the first line that goes wrong, if one did
abbrev pub IsJudged : Option ℕ → Draft → List Words → Type 0
IsJudged None draft taken = IsRead draft taken
IsJudged (Some line) draft taken = GoesWrong line taken

-- what a reader has taken
pub record HasTaken (reader : Reader) (taken : List Words) : Type 0 where
  pub count : reader.count ≡ length taken
  pub judged : IsJudged reader.misfit reader.draft taken
